-- What the tests' harness is stated by: when the frames allow a step's call, and which frames it leaves.
pub mod Steps
