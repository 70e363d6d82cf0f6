-- Tunes read from a text. In reading order.
-- Definitions: words and lines, what a line says, what is read, and what is said of a mistake
pub mod Words
pub mod Saying
pub mod Reading
pub mod MistakeLines
-- Examples
pub mod Example
-- A line taken apart, as the code does it
pub mod Pieces
pub mod Flags
pub mod Numbers
-- A text line by line
pub mod Lines
-- The answer, and what a caller learns from it
pub mod Answers
