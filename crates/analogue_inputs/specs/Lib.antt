-- What the functions on analogue inputs promise.
-- Assumes nothing.
pub mod Promises
