-- Lemmas on what a job does, in the order to read them: no file stands on a later one. What a file is for stands at its head.

-- names and lists, and what is kept under names: values of variables, what is known at a line, instructions of lines
pub mod NameLemmas
pub mod Suffixes
pub mod Values
pub mod Known
pub mod Programs
-- the steps of a program are those of its job
pub mod Steps
-- a job that the check accepts meets no fault of rights: what is held by names, and that it is what the check knows at each line
pub mod RightsNames
pub mod RightsPlaces
pub mod RightsEntries
pub mod RightsKnown
pub mod RightsTasks
-- then where an activation stands and goes on, what a spawn gives, and what each line does
pub mod RightsStands
pub mod RightsJumps
pub mod RightsSpawns
pub mod RightsLines
pub mod RightsEffects
pub mod RightsSteps
pub mod RightsRuns
-- names of outcomes, the first steps of lines, rows of work, and why names and places are few
pub mod Namings
pub mod Firsts
pub mod Rows
pub mod FewNames
pub mod FewTakes
