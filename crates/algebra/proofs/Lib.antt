-- Theorems of the crate `algebra`, in reading order.
pub mod Powers
pub mod Inverses
pub mod Polynomials
pub mod SmallField
pub mod Squares
