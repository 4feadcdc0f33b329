-- What the contracts of this crate cite, in the order to read it. First frames: what a frame is, wherever it is, what it asks for, and
-- how it goes on by itself.
pub mod Frames
pub mod Asked
pub mod Going
-- The core: the record of live frames, what the core of a run keeps and what holds of it, and what a resume answers.
pub mod Records
pub mod Cores
pub mod Resumes
-- Which frame is the earliest, what a spawn gives, and with what a core opens.
pub mod Earliest
pub mod Giving
pub mod Opened
