-- Laws that the proofs of this crate cite, and those above it may.
-- Assumes nothing.
pub mod StoreLaws
pub mod WriteLaws
pub mod DriveLaws
