-- How an index is looked up.
-- Assumes nothing.
pub mod Lookup
pub mod Commanded
