-- The generated workload, in the order to read it: its texts, and that its job is in order over its input.
pub mod Bulk
pub mod NeverRefused
