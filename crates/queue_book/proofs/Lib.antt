-- Lemmas on hyperqueues in the plainest form, in the order to read them: no file stands on a later one. What a file is for stands at its
-- head.

-- chunks in chains of nodes
pub mod ChainKept
pub mod ChainChanges
pub mod ChainGrowth
pub mod ChainFronts
pub mod ChainLoops
pub mod ChainWalks
pub mod ChainEnds
-- what is kept of the frames
pub mod LiveKept
pub mod LivePut
pub mod OpenOwners
-- each call keeps the whole: first what doesn't depend on how it is kept (`Plain..`), then with frames, chains and turns (`Book..`)
pub mod PlainSaid
pub mod PlainDeeds
pub mod PlainLent
pub mod PlainStart
pub mod PlainMade
pub mod PlainSpawned
pub mod BookFronts
pub mod BookDeeds
pub mod BookLent
pub mod BookRest
pub mod BookMade
pub mod BookFinish
pub mod GivenPushes
pub mod Giving
pub mod GivingSteps
pub mod BookSpawn
