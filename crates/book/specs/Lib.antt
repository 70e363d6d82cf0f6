-- Tune books (SPECIFICATION 5 and 8.5 to 8.11). In reading order.
-- Definitions
pub mod Options
pub mod Layout
pub mod Open
pub mod Pull
pub mod Reading
pub mod Bodies
pub mod Entries
-- Laws of the loops over the contents
pub mod ContentsLoops
-- What an accepted book is
pub mod Accepted
pub mod Pulled
-- What is read of a body
pub mod CardReading
pub mod Bounds
pub mod Delays
pub mod Damaged
pub mod ReadBack
