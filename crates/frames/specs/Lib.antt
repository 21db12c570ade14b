-- Document 01's text program, but for its run: digits, frames, lines of a text, lines of answers.
pub mod Hex
pub mod Frames
pub mod Lines
pub mod AnswerLines
