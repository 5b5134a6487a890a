-- Laws of the layout of eight bytes.
-- Assumes nothing.
pub mod LayoutLaws
