-- The replies to a request and to the plain call that it is.
-- Assumes nothing.
pub mod Laws
