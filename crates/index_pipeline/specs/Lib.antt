-- The index of a text, in the order to read it: from words to the index, and which pairs it has.
pub mod Words
pub mod Pairs
pub mod Index
pub mod Members
-- Then what tasks push, the steps of the pipeline, its plan, and what its outcome is.
pub mod Records
pub mod Steps
pub mod Plans
pub mod Indexed
-- By these the code's own functions are stated, and no public clause.
pub mod Keys
pub mod KeptPairs
pub mod Batches
