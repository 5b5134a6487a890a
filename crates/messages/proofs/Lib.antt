-- Laws of frames.
-- Assumes nothing.
pub mod FrameLaws
