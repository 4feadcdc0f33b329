-- What the contracts of this crate cite, in the order to read it; renamed objects themselves, and what it is that they follow
-- a reading, are defined in the book of `swan_model`. First what the calls and the laws say.
pub mod Following
-- How versions are kept, and what is true of that, by which the code's own functions are stated.
pub mod Store
pub mod Whole
pub mod Waiting
pub mod Ending
