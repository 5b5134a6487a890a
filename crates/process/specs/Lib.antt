-- Which edges a sample reports.
-- Assumes nothing.
pub mod Promises
