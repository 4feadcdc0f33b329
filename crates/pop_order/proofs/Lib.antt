-- Lemmas on the turns of poppers, in the order to read them: no file stands on a later one. What a file is for stands at its head.

-- no frames, and the sets of children and of pairs
pub mod Blocking
pub mod Empty
pub mod Entries
pub mod PairOrder
pub mod Holders
-- the order of the frames of a tree, and the way to the first earlier pusher
pub mod Lineage
pub mod Before
pub mod Meeting
pub mod Walks
-- the sets as a child was given a queue, and as it was given back
pub mod Changes
pub mod Growing
pub mod Shrinking
pub mod Noted
-- the frames as one is enlisted, lent to and given back
pub mod Enlisting
pub mod Returning
-- the law: the order of a tree is the serial order
pub mod SerialOrder
