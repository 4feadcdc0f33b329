-- Lemmas on lines, each file by itself: how many bytes lines have, how lines are held after others, and how many lines and bytes a
-- text has.
pub mod Counting
pub mod Reading
pub mod TextLines
