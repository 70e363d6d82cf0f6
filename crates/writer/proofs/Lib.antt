-- Theorems of the crate `writer`, in reading order.
pub mod Tested
pub mod Writable
pub mod Filled
pub mod Again
pub mod Held
pub mod Shown
