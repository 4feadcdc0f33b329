-- What the contracts of this crate cite, in the order to read it; the elision itself, scripts and true frames are defined in
-- the book of `swan_model`. First what the laws say: of a step of the whole run and of its faults, and of the steps of a
-- task, by what its body asks for.
pub mod Laws
pub mod TaskSteps
pub mod OnSteps
-- How many of a task's children failed.
pub mod Caught
-- Why the numbers of an activation fit, and of whatever goes on as one does.
pub mod Bounds
-- The state some steps later, by which the crate above says what a whole run is too.
pub mod Working
-- By these the code's own functions are stated, and no public clause: what stands at a place and what an ask makes of it, and what
-- an ask did as the code has it.
pub mod Places
pub mod Effects
