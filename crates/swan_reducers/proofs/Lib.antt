-- Lemmas on folds of lines, in the order to read them: no file stands on a later one. What a file is for stands at its head.

-- every reducer: how parts are joined, and the run of a fold
pub mod Joining
pub mod Folding
-- the reducer of sums
pub mod Narrowing
pub mod SumBlocks
pub mod SumTotals
-- the reducer of joins
pub mod JoinBlocks
pub mod JoinTotals
