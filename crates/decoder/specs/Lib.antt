-- Decoding in code: what the code's values stand for, and the proofs' steps. In reading order.
-- The annihilator of a window
pub mod Windows
-- Errors of rank at most 1: k = 3 and 4
pub mod Singles
-- Errors of rank 2: k = 1 and 2
pub mod Doubles
-- What decode answers
pub mod Filling
pub mod Decoding
