-- Wear over a run of cards (SPECIFICATION 8.23). In reading order.
-- Definitions
pub mod Wear
-- The largest of some numbers, and the first that is the largest
pub mod Largest
-- The sum of a run that slides along
pub mod Sliding
-- What the worst run is
pub mod Worst
