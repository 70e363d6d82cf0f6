-- Theorems of the crate `book`, in reading order.
pub mod Accepted
pub mod Pulled
pub mod Made
