-- What a job does. The first eight files are what a reader of the public clauses needs, in this order. By the
-- last five the code's own functions are stated, and no public clause.
pub mod Operations
pub mod Standing
pub mod Tasks
pub mod Blocks
pub mod Steps
pub mod PlanOfJob
pub mod NamesOfJob
pub mod RightsKept
pub mod Names
pub mod Firsts
pub mod Compiled
pub mod Runs
pub mod Slots
