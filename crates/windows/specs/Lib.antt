-- Rows of lines as words, and what the functions on rows and windows promise.
-- Assumes nothing.
pub mod View
pub mod Promises
