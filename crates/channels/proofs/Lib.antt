-- Laws that the proofs of this crate cite, and those above it may.
-- Assumes nothing.
pub mod SignedLaws
pub mod Sweeps
pub mod StoreLaws
