-- The mappings in the array that the device lends, and what the functions on them promise.
-- Assumes nothing.
pub mod View
