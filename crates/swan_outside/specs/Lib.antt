-- What the contracts of files and sinks cite, in the order to read it. First what is said of all of them: how faults are
-- counted, what is told of bytes, and what a read leaves.
pub mod Counts
pub mod Told
pub mod Reads
-- Then what those in memory do, as they are told to fail, and those that never fail.
pub mod FilesState
pub mod SinkState
pub mod Honest
-- Last, what is taken by the two streams of the process.
pub mod Streams
