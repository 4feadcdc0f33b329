-- What a lock is by its contracts, in the order to read it. First what public clauses say of locks and seats.
pub mod Seats
-- What holds of a lock between any two steps, and what each step tells, by which the code's own functions are stated.
pub mod Rule
