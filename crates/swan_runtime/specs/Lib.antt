-- What the contracts of this crate cite, in the order to read it. First a run on a stack: how its frames stand, and how long it is.
pub mod Stacks
pub mod Turns
-- Then a run by several workers: what they share, under whom a frame sleeps and whom it wakes (`Beds` and `Woken`, which private contracts
-- alone cite), what a turn answers, and which workers are of one opening.
pub mod Shared
pub mod Beds
pub mod Woken
pub mod Turned
pub mod Workers
