-- The answer line of a request, to the letter.
-- Assumes nothing.
pub mod FrameAnswers
