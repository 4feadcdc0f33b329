-- Lemmas on the index of a text, in the order to read them: no file stands on a later one. What a file is for stands at its head.

-- what words, pairs and records are
mod Runs
mod Wording
mod Telling
mod Collecting
mod Recording
mod SortedLists
mod Rising
-- the run that leaves the index
mod Indexing
-- how the code keeps words, pairs and records
mod Lowering
mod Taking
mod KeyOrder
mod KeptOrder
mod Dropping
mod Batching
