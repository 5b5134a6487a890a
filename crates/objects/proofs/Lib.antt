-- Laws of reads and writes.
-- Assumes nothing.
pub mod AccessLaws
