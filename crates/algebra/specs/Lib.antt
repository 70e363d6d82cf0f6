-- The algebra that everything stands on: the field of 729 elements as numbers, and the laws of it. In reading order.
-- Definitions
pub mod Field
-- Lists and computed tests
pub mod Lists
pub mod Tests
pub mod Search
-- A symbol as six digits modulo 3: sums, combinations, spans, linear functions
pub mod Mod3
pub mod Digits
pub mod Sums
pub mod Combinations
pub mod Linear
-- Products, powers and inverses
pub mod Products
pub mod Powers
pub mod Inverses
-- The small field, and squares
pub mod SmallField
pub mod Squares
-- Sums of many symbols, and linearized polynomials
pub mod Totals
pub mod Polynomials
