-- Decoding with dead lines in code: what the code's values stand for, and the proofs' steps. In reading order.
-- Steps and their way back, in arrays
pub mod Lines
-- A message checked against the lines that are left
pub mod Checking
-- What is found for a card with dead lines, and what is tried
pub mod Finds
pub mod Fractions
pub mod Solutions
pub mod Roots
pub mod Tries
-- What the operation answers
pub mod Operation
