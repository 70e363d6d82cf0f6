-- Strikes (SPECIFICATION 6). In reading order.
-- What a message means
pub mod Strikes
-- Strikes as lists of numbers
pub mod Turns
