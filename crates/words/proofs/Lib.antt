-- Laws of words, numbers and lists of them, that the crates above cite too.
-- Assumes nothing.
pub mod RunLaws
pub mod SplitLaws
pub mod ExpectationLaws
pub mod NumberLaws
pub mod BufferLaws
pub mod ItemLaws
