-- Laws from the elements of the array to the mappings that they hold, and from the code's tests to what an entry moves.
-- Assumes nothing.
pub mod ViewLaws
pub mod EntryLaws
