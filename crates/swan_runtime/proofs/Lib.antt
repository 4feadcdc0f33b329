-- Lemmas on runs out of order. Each group stands by itself, and in it no file stands on a later one. What a file is for stands at its head.

-- a run on a stack: how its frames stand, what a turn costs them, and how many turns and frames there are
pub mod Fuel
pub mod Stacking
pub mod Spending
pub mod Turning
pub mod Depth
pub mod Bound
-- frames that sleep, those that are ready, and whom the core's answers wake
mod Waking
mod Bedding
mod Answering
-- what a worker's turn answers, and the workers of an opening
mod TurnsTold
pub mod Crews
