-- The six arrays as machines, and what the calls on them promise.
-- Assumes nothing.
pub mod View
pub mod Promises
