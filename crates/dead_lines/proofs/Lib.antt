-- Theorems of the crate `dead_lines`, in reading order.
pub mod Multipliers
pub mod ErrorRank
pub mod Solving
