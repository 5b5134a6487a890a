-- Laws of how long an answer line may be.
-- Assumes nothing.
pub mod FrameLengths
