-- Which line is which call, and what the reader of a line promises.
-- Assumes nothing.
pub mod Meanings
pub mod Promises
