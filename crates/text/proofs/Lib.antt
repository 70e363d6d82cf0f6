-- Theorems of the crate `text`, in reading order.
pub mod WritingLaws
