-- The check of a job, in the order to read it: which names are known at a line, how they may be used, what operations and
-- spawns ask of them, and the first fault of a job.
pub mod Names
pub mod Uses
pub mod Operations
pub mod Spawns
pub mod FirstFault
-- By these the code's own functions are stated, and no public clause.
pub mod Checking
pub mod Lending
