-- What the contracts of this crate cite: which frames may come to a core.
pub mod Pools
