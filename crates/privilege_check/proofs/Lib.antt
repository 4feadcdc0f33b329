-- What a spawn lends, as the check goes through its arguments.
pub mod Lends
