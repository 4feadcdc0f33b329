-- Lemmas on the generated workload, in the order to read them: no file stands on a later one. What a file is for stands at its head.

-- its texts, each by itself
pub mod BulkLines
pub mod Digits
pub mod Parts
pub mod Inputs
-- the job is read, checked and planned without a refusal
pub mod Orders
