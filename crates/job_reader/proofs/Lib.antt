-- Lemmas on the text of a job, in the order to read them: no file stands on a later one. What a file is for stands at its head.

-- what is read byte by byte: tokens of a line, literals, names and numbers
pub mod Trims
pub mod Scans
pub mod Decodes
pub mod Ascii
pub mod Parses
pub mod AtomLists
-- lines of a text, and tokens that are joined to a line
pub mod LineEnds
pub mod TextLines
pub mod Joins
-- the canonical text of a job: its tokens stand for what they are written for, and it reads back as the job
pub mod Canon
pub mod WrittenLines
pub mod Literals
pub mod CanonTokens
pub mod WholeTokens
pub mod SameForms
pub mod ReadsBack
pub mod JobFacts
-- there is one way to cut a text, a line and a literal
pub mod LinePieces
pub mod TokenPieces
pub mod LiteralPieces
