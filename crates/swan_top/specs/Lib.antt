-- What the top call does. The first eight files are what a reader of its clauses needs, in this order.
pub mod Command
pub mod Elisions
pub mod Refusals
pub mod Decision
pub mod Headline
pub mod Completeness
pub mod Pipelines
pub mod Generated
-- The code of a status.
pub mod Codes
-- By these the code's own functions are stated, and no public clause.
pub mod Settled
pub mod Forms
