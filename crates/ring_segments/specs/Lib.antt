-- What the contracts of this crate cite, in the order to read it. First what public clauses say: segments by their tags with what
-- they owe, and their ends as contracts see them.
pub mod Tags
pub mod Ends
-- By these the code's own functions are stated, and no public clause: what a slot keeps, the rule of the words of a table, and the
-- seats of a segment's ends.
pub mod Entries
pub mod Words
pub mod Seating
pub mod Sits
