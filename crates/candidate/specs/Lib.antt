-- Candidates in code: what was found, and messages in arrays. In reading order.
pub mod Finding
pub mod Places
