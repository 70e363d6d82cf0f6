-- Books written from tune numbers, counts of cards and strikes. In reading order.
-- Definitions
pub mod Writing
pub mod Holding
-- Laws of the bytes
pub mod Layouts
-- What the writer does not refuse
pub mod Writable
-- What a written book shows
pub mod Shown
-- Cards and bodies without damage
pub mod CleanCards
-- What a clean book is written from
pub mod Again
-- What a written book holds, and that it holds one triple of lists only
pub mod Held
-- What the code does, step by step: the tests, and the filling of a book
pub mod Filled
