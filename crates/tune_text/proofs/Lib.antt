-- Theorems of the crate `tune_text`, in reading order.
pub mod PieceLaws
pub mod SizeLaws
pub mod NumberLaws
pub mod WordLaws
pub mod LineLaws
pub mod AnswerLaws
