-- The replies of the messages, and what the parts of a message promise.
-- Assumes nothing.
pub mod View
