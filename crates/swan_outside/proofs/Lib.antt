-- Lemmas on files and sinks, each file by itself: how what is told joins from call to call, and fronts of lists.
pub mod Told
pub mod Fronts
