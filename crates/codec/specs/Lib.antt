-- Encoding and testing in code: what the operations on cards answer, and what the code's values stand for. In reading order.
-- What the operations answer, and what a message stands for
pub mod Operations
pub mod Messages
pub mod Refusals
