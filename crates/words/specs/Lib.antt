-- The words, numbers and lists of a line, and a line as an expected answer.
-- Assumes nothing.
pub mod Ascii
pub mod Buffers
pub mod Held
pub mod Words
pub mod Numbers
pub mod Items
pub mod Expectations
