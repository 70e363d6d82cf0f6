-- The C interface. In reading order.
-- What its functions promise
pub mod Calls
-- How that follows from the operations' answers
pub mod Given
