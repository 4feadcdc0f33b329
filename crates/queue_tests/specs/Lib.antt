-- What the tests' harness is stated by, in the order to read it: when a state allows a call, and when a table of calls, with the state
-- after it.
pub mod Allowed
pub mod Steps
