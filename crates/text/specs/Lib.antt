-- Texts that programs print. In reading order.
-- Definitions
pub mod Text
-- A text stored in a list that was lent
pub mod Writing
-- The digits of a number, and how many there are
pub mod Decimal
