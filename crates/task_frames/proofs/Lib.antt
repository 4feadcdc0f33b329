-- Lemmas on frames and the core, in the order to read them: no file stands on a later one. What a file is for stands at its head. The
-- first group is about one frame, those from `GoneOn` on are about what the core keeps, those from `Given` on about its steps, and the last ones about its end and its opening.

-- a frame in the middle of a step, and after steps of its own; what its ends serve, and what they show of it; rounds of both
pub mod Amid
pub mod Served
pub mod Shown
pub mod Same
pub mod Rounds
-- a reading that goes on
pub mod GoneOn
pub mod CatchUp
pub mod Failing
-- names of what is held, and what a frame may ask its queues for by them
pub mod Names
pub mod LocalNames
pub mod QueueUse
-- frames that were given so before and after
pub mod AsGiven
-- what the core keeps: of its queues, of its objects, of its frames, of its faults, of the children that failed
pub mod Queues
pub mod Objects
pub mod Live
pub mod Booked
pub mod Counted
-- what may be asked for a step, whom a frame waits for, and which frames may end
pub mod Rights
pub mod Waiting
pub mod MayEnd
-- ends that are lent, and what a child is given
pub mod EndsLent
pub mod Giving
pub mod Spawning
pub mod FewFrames
-- the record of live frames, and the earliest one
pub mod Lives
pub mod Earliest
-- frames at the core, and those that stay as they are meanwhile
pub mod Given
pub mod Goings
pub mod Endings
pub mod Taking
pub mod Asked
pub mod Syncing
pub mod Firsts
pub mod Answered
pub mod Tried
-- steps at the core, by what they ask for: of objects, of queues, a child, a new place
pub mod ObjectSteps
pub mod AtQueues
pub mod ChildGiven
pub mod SpawnStep
pub mod AtPlaces
-- the order of faults, and what is left at the end
pub mod FaultsSorted
pub mod LeftOver
pub mod Leaving
-- a run that opens, and a core that begins
pub mod Opening
pub mod Beginning
