-- Lemmas on the tests of hyperqueues, in the order to read them: when a state allows a call, who may lend ends, and a root that pushes
-- many items.
pub mod Allowing
pub mod Lending
pub mod Pushing
