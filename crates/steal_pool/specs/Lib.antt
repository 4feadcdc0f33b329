-- What a pool is by its contracts, in the order to read it. First what the clauses of a seat are told by: its own list, the
-- other seats, and what holds of a deque between any two steps, with what each step tells.
pub mod Kept
pub mod Deques
pub mod Peers
pub mod Rule
-- Then what public clauses say of seats.
pub mod Seats
