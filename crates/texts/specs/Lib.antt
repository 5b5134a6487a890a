-- Numbers, bytes and words as text, and tables of words.
-- Assumes nothing.
pub mod Texts
pub mod Tables
