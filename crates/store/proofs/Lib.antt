-- Laws from the promises of lines and channels to the machines that the arrays hold, and to the promise of a call.
-- Assumes nothing.
pub mod MachineLaws
pub mod OutcomeLaws
pub mod WatchOutcome
pub mod KeepLaws
pub mod StepLaws
pub mod EntryLaws
pub mod CallLaws
