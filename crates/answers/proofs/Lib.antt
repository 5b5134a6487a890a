-- Laws of the parts of an answer line, and of how long an answer line may be.
-- Assumes nothing.
pub mod AnswerLaws
pub mod LastLaws
pub mod LengthLaws
pub mod EntryLengths
pub mod HeartbeatLengths
