-- Lemmas on the elision and its scripts, in the order to read them: no file stands on a later one. What a file is for stands at its
-- head.

-- what one step does, and that the steps end
pub mod Asks
pub mod Pops
pub mod Spawns
pub mod Aliases
pub mod StepLaws
pub mod Steps
pub mod Works
pub mod Still
pub mod At
pub mod Counts
pub mod Runs
pub mod Ends
pub mod Finals
-- a script has an entry for each step
pub mod Scripts
pub mod Entries
-- the order of tasks and of faults, and how a task goes on
pub mod Turns
pub mod FewFailed
pub mod FaultOrder
pub mod Passing
pub mod Nesting
pub mod Endings
pub mod TaskSteps
pub mod FaultsTold
pub mod Onward
pub mod Caught
-- the script tells items and values, and what is left
pub mod ItemsTold
pub mod Becomes
pub mod StateTold
pub mod Zeroed
pub mod AsksTold
pub mod SerialTold
pub mod OutcomeTold
pub mod EndDeeds
-- what is held, and by which rights
pub mod Rights
pub mod Held
pub mod Granting
pub mod RightsTold
pub mod NamesStay
pub mod RootNames
pub mod SpawnGives
-- scripts are lawful, and a run has room
pub mod Lawful
pub mod FewMade
pub mod FewHeld
pub mod Room
-- each ask in the words of the script
pub mod AskSteps
pub mod AskMakes
-- what is ripe, and stays so
pub mod MadeAbove
pub mod ChildFirst
pub mod PointsRise
pub mod Holders
pub mod RipeStays
pub mod RipeBefore
pub mod RipeSpawns
