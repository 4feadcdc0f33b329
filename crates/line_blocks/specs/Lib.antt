-- What tasks want that read the lines of a text, in the order to read it. First lines in a row with their numbers, how they are held
-- until they are a block, and the pieces of a text.
pub mod LineBlocks
pub mod HeldLines
pub mod Pieces
-- Then what a task does next that reads a queue to its end, and one that reads lines in blocks.
pub mod Readers
pub mod LineReading
-- Last, what a pipeline of a text begins with.
pub mod TextRoots
