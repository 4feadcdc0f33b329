-- What the tests' harness is stated by: when the objects allow a step's call, and which objects it leaves.
pub mod Steps
