-- The book of the project. It is meant to be read from top to bottom, with no code beside it but the types of values, asks and plans
-- in src/, and has two shelves.
--
-- The first shelf is what the headline speaks of: what a plan is, what its serial elision leaves, and what is printed of that.
-- Who wants to know what is promised of the bytes that come out reads these eight files and no more; of the second shelf the headline
-- names `script` alone, by which a run went.
pub mod Values
pub mod Rights
pub mod Roots
pub mod SerialState
pub mod SerialStep
pub mod Elision
pub mod Texts
pub mod Lines
-- What many steps of a task's own work in a row are, for the call of a body that takes them.
pub mod Work
-- The second shelf is for runs out of order. First what `when` means there: what a script is and tells, and where in serial
-- order the tasks of such a run stand.
pub mod Script
pub mod Told
pub mod SerialTime
pub mod Granted
pub mod Nested
pub mod Ripe
pub mod Lawful
-- Then what renamed objects and hyperqueues keep of such a run, what it is that they follow a script, and what a segment of a
-- hyperqueue owes.
pub mod Readings
pub mod Versions
pub mod VersionsFollow
pub mod PathOrder
pub mod QueueState
pub mod QueueFollows
pub mod Segments
-- Last, when a task that runs by itself, apart from all others, is what its task is in the elision.
pub mod TrueFrames
