-- What the contracts of this crate cite, in the order to read it. First what the contract of hyperqueues says: what calls
-- ask for, what ends are and do, what is answered, and how readings go with it.
pub mod Asks
pub mod Ends
pub mod Tells
pub mod Reads
-- What each form has to show of a state, whatever it is kept in: what the frames keep of each other, their turns, and a queue
-- as its chunks in serial order, whose they are and what stands in them.
pub mod Tree
pub mod Turned
pub mod Chunks
