-- The tables of words and the answer lines, to the letter.
-- Assumes nothing.
pub mod EntryWords
pub mod Refusals
pub mod Remarks
pub mod Answers
