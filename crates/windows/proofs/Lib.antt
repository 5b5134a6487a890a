-- Laws of windows, rows and their bytes.
-- Assumes nothing.
pub mod WindowLaws
pub mod PlaceLaws
pub mod RowLaws
pub mod ByteLaws
