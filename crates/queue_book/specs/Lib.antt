-- What the contracts of this crate cite, in the order to read it. First what is said of the plain form: its ends, what
-- contracts see of it, and what the calls make of a state (`Calls`, which private contracts alone cite).
pub mod NoEnds
pub mod BookView
pub mod Calls
-- How the plain form is kept, cited by private contracts alone: the chunks in their chains, the frames, and the whole.
pub mod Chains
pub mod Lines
pub mod KeptFrames
pub mod Live
pub mod Whole
-- What its private calls leave.
pub mod Fronts
pub mod Made
pub mod Ended
pub mod Handed
pub mod Spawned
