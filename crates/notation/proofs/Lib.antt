-- Laws of what a line means, by what the reader finds of it.
-- Assumes nothing.
pub mod Laws
