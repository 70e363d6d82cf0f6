-- What comes of a text, by what was read of it
pub mod TextLaws
-- What the book shows, and how long book and line are
pub mod Shown
-- What a caller learns from the answer
pub mod AnswerLaws
