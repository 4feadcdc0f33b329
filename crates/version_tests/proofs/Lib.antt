-- Where a step of a test is allowed, its call is.
pub mod Allowing
