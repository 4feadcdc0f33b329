-- Tasks that run whole. The one file is meant to be read from top to bottom, after those of the elision in the book of
-- `swan_model`.
pub mod Whole
