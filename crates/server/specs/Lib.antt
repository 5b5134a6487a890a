-- The reply of a request in place, and what an upload or a download promises to it.
-- Assumes nothing.
pub mod View
