-- Lemmas on segments, each file by itself: each step keeps the rule of the ring, what stands before the end of a segment, and that a
-- segment has no more items before it than before its end.
pub mod Keeps
pub mod Inside
pub mod Opening
