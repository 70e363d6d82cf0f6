-- What the code of the field computes, in reading order.
-- Sums by six digits
pub mod DigitSums
-- Logarithms, and products and inverses by them
pub mod Exponents
-- The small field by digits
pub mod Small
