-- Lemmas on hyperqueues, in the order to read them: no file stands on a later one. What a file is for stands at its head. The groups
-- before `Above` are about queues that follow a script, and about the readings that fit; those from it on about what each form has to show
-- of a state.

-- the active frames of a state, and those after a call
pub mod Frames
pub mod FramesChanged
pub mod ActiveAfter
-- the point of a task among queues
pub mod Places
pub mod Between
pub mod QueuePoints
pub mod Kept
-- tasks below another one
pub mod Under
pub mod Lineage
pub mod Holders
-- where a reading fits: the order of points, what is done, and what is ripe
pub mod Fitting
pub mod SerialPoints
pub mod Refitting
pub mod Done
pub mod Ripening
pub mod ReadingsAgree
-- each call leaves hyperqueues that follow: a deed, a new queue, a spawn, an end
pub mod Changing
pub mod Moving
pub mod Calls
pub mod Making
pub mod Creating
pub mod Growing
pub mod Given
pub mod Spawning
pub mod Finishing
-- which readings fit after a call, and after entries that are done without one
pub mod Advancing
pub mod Continuing
pub mod Rereading
pub mod ReadingStart
pub mod ReadingMakes
pub mod ReadingSpawns
pub mod NextDeeds
-- what the frames of a state keep of each other
pub mod Above
pub mod TreeChanged
pub mod OneChanged
pub mod Gives
pub mod TreeAdded
pub mod TreeWithout
pub mod TreeCalls
pub mod TreeKept
pub mod TreeSpawners
pub mod TurnsGoOn
pub mod TreeTurns
-- who owns the chunks of a queue
pub mod Owners
pub mod ChunkOwners
pub mod OwnersHanded
pub mod QueueHolders
pub mod OwnersSpawned
pub mod TreeOwners
-- the chunks of a queue match the script
pub mod Segments
pub mod MatchSame
pub mod MatchParts
pub mod MatchFront
pub mod MatchOwners
pub mod MatchDeed
pub mod MatchPush
pub mod MatchFinish
pub mod MatchPop
pub mod MatchRest
pub mod MatchMade
pub mod MatchSpawn
pub mod Match
pub mod TakenOn
-- the turns of poppers
pub mod SameHolders
pub mod TurnsKept
pub mod TurnsGone
pub mod TurnsEnlisted
pub mod TurnsCalls
pub mod TurnsMade
pub mod GivingTurns
pub mod TurnsSpawned
pub mod TurnsTold
