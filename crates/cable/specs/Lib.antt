-- Levels on the cable in code. In reading order.
-- What the operations answer
pub mod Operations
-- Sums of levels fit 16 bits
pub mod Sizes
-- What holds once the tests are passed, and the turns of the loops
pub mod Steps
