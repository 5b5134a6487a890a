-- What the two halves of a reply promise.
-- Assumes nothing.
pub mod Layout
