-- Laws from the code's tables to document 01's.
-- Assumes nothing.
pub mod TableLaws
pub mod WidthLaws
