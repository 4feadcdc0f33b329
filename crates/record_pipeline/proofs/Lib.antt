-- Lemmas on the conversion of a text, in the order to read them: no file stands on a later one. What a file is for stands at its head.

-- the fields of lines
pub mod FieldByField
pub mod Widths
-- what lines push and which faults they book, and the run that leaves the conversion
mod Recording
mod Converting
