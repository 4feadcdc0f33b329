-- What the contracts of this crate cite, in the order to read it. First what the calls and the law say: the frames, their order
-- in a tree, how a reading sees them, and who may pop.
pub mod Frames
pub mod Order
pub mod Readings
pub mod Turns
-- What a set of pairs has, and what a call changes of what is known by numbers; the crates above cite both too.
pub mod NumberPairs
pub mod OneChange
-- By these the code's own functions are stated, and no public clause. Three sets stand beside the frames, two of children and one of
-- givers (`Children` and `Givers`), and `Kept` says what they have.
pub mod Children
pub mod Givers
pub mod Kept
-- What is found on the way to the first earlier pusher, and among older siblings.
pub mod Walk
pub mod Poppers
-- How the frames, and the givers, differ after a child was given a queue, and how the frames do after it was given back.
pub mod Steps
