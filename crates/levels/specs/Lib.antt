-- Levels on the cable. In reading order.
-- Definitions: levels, signed numbers, samples
pub mod Levels
-- Signed numbers and symbols undo each other
pub mod Balanced
-- A card whose samples fall to its digits' levels is received as that card
pub mod Received
