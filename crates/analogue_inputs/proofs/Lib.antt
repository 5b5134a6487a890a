-- Laws that the proofs of this crate cite, and those above it may.
-- Assumes nothing.
pub mod MeetsLaws
pub mod StoreLaws
pub mod SourceLaws
pub mod Gathered
pub mod WriteLaws
