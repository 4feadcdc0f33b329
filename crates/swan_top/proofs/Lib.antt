-- Lemmas on the top call, in the order to read them: no file stands on a later one. What a file is for stands at its head.

-- the words of a command, the texts of its inputs, and what reading, accepting and running lead to
pub mod WordsRead
pub mod TextsRead
pub mod Leading
-- what is in order
pub mod Completeness
-- what pipelines and the generated job write
pub mod Pipelines
pub mod Generated
