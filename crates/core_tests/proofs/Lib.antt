-- Which frames may come to a core, as a test that keeps several of them goes on.
pub mod Coming
