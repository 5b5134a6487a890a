-- Laws of text that is put into a buffer, and that what is printed reads back.
-- Assumes nothing.
pub mod TableLaws
pub mod TextLaws
pub mod ReadBack
