-- Lemmas on renamed objects, in the order to read them: no file stands on a later one. What a file is for stands at its head. The
-- groups before `Tasks` are about versions as they are kept, those from it on about the script that they follow; of the former these cite
-- `Differ`, `Lookups` and `PlacesAfter` alone.

-- which versions and modes aren't the same, and what stands at a place after a change
pub mod Differ
pub mod Lookups
pub mod PlacesAfter
-- versions as they are kept: how often each is used, that they stay whole, and what contracts see of them
pub mod Counts
pub mod FewUses
pub mod Referred
pub mod Steps
pub mod References
pub mod Commuting
pub mod Seeing
-- a version gets its value, an object is made, one is written, and a version is given up
pub mod GetsValue
pub mod Making
pub mod Writing
pub mod Overwriting
pub mod Forgotten
-- an object is given to a child, and which versions a frame waits for
pub mod Given
pub mod GivingUp
pub mod GivingOut
pub mod GivingInOut
pub mod GivingIn
pub mod Awaited
-- the end of a frame: its places one after the other, what it owes is settled, and what it has is released
pub mod Order
pub mod Walk
pub mod Listing
pub mod Settling
pub mod Debts
pub mod Releasing
pub mod Finishing
-- what objects have is right by a script and a reading, as frames go on
pub mod Tasks
pub mod Moves
-- each call leaves objects that follow: an entry that the objects are not told of, a write, a new object, the end of a frame
pub mod PassFollows
pub mod WriteFollows
pub mod MakeFollows
pub mod FinishPlaces
pub mod FinishFollows
pub mod CallsFollow
-- the laws of ended children, of what stays at each place, of who waits for nothing later, and of who comes before whom
pub mod EndedChildren
pub mod PlacesStay
pub mod NoMoreWaits
pub mod OwnersEarlier
-- while a child is being given its objects: the gives of its spawn, one access more, and the end of the spawn
pub mod SpawnGives
pub mod GivingPlaces
pub mod GivingKept
pub mod GivingAccess
pub mod GivingEnds
pub mod GivingBegins
-- what other frames do meanwhile, and the calls in the shape of their clauses
pub mod GivingOthers
pub mod GivingFinish
pub mod GivingCalls
pub mod GivingMeanwhile
