-- What the functions on analogue outputs promise, and what a write asks.
-- Assumes nothing.
pub mod Promises
pub mod Writable
