-- The conversion of a text, in the order to read it. First what is written: fields and netstrings, and the conversion.
pub mod Netstrings
pub mod Conversion
-- Then the steps of the pipeline that makes it, its plan, and what its outcome is.
pub mod Steps
pub mod Plans
pub mod Converted
