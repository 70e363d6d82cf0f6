-- What is demanded of the operations and of the code. In reading order.
-- The page to read first
pub mod Demands
-- What is said leaves nothing free
pub mod Settled
-- What holds of written books
pub mod WrittenBooks
-- The cases that are to be theorems
pub mod Cases
