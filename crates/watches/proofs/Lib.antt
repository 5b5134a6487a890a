-- Laws from the elements of the array to the entries of the watch that they hold, from the code's tests to what becomes of an entry, and
-- of the loops over all four.
-- Assumes nothing.
pub mod ViewLaws
pub mod EntryLaws
pub mod SweepLaws
pub mod SecondLaws
