-- Where the entries of the heartbeat watch stand.
-- Assumes nothing.
pub mod View
