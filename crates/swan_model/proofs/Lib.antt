-- Lemmas on the book, which other crates cite too, in the order to read them: no file stands on a later one. What a file is for stands
-- at its head.

-- lists, entries and places
pub mod Lists
pub mod Elements
pub mod RootLists
pub mod Lookups
pub mod Tables
pub mod Places
pub mod Paths
pub mod Origins
-- texts, cells and steps
pub mod FirstLine
pub mod FewLines
pub mod ZeroedCells
pub mod Stores
pub mod Working
pub mod ScriptLength
-- serial order, and the entries of a task
pub mod PathOrder
pub mod Times
pub mod TaskEntries
pub mod Points
-- what lawful scripts tell of frames, rights, deeds, values and items
pub mod ScriptSteps
pub mod MovedFrames
pub mod Uses
pub mod ScriptRights
pub mod ScriptDeeds
pub mod ScriptCells
pub mod ScriptCounts
