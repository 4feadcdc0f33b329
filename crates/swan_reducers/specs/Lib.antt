-- Folds of the lines of a text, in the order to read it. First what each reducer keeps, what the fold of lines is, and what
-- the reducers of sums and of joins mean.
pub mod Lawful
pub mod LineFolds
pub mod Fold
pub mod Sums
pub mod Joins
-- Then the steps of the pipeline, its plan, and what its outcome is.
pub mod Steps
pub mod Plans
pub mod Folded
-- Last, why the two reducers keep the laws. These are proofs, and stand here since a reducer hands them out with its meanings.
pub mod SumBytes
pub mod SumLaws
pub mod JoinLaws
