-- Lemmas on tasks that run whole, in the order to read them: no file stands on a later one. What a file is for stands at its head.

-- any task, and one that pushes the items of a list
pub mod Wholes
pub mod WholeSteps
pub mod Pushers
-- a task that reads a queue to its end in blocks
pub mod BlockReaders
pub mod Blocks
-- the queues of a plan in which what the blocks push is collected
pub mod CollectedParts
