-- The text of a job, in the order to read it. First bytes, and what lines, tokens and literals are, by their pieces and as they are
-- found byte by byte; `Texts` is cited by private contracts alone.
pub mod Characters
pub mod Texts
pub mod Pieces
pub mod Tokens
-- What is wrong with a line; names, numbers and literals; and the words of the language.
pub mod Faults
pub mod Atoms
pub mod Words
-- Which line may stand where, which line a text is there, and the job that a text is, or its first fault.
pub mod Positions
pub mod LineShape
pub mod FirstFault
-- The one text of a job, and what every job keeps.
pub mod CanonicalText
pub mod Jobs
