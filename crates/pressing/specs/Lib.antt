-- What comes of a text of tunes. In reading order.
-- Definitions
pub mod Pressing
-- A book pressed from lists
pub mod Lists
-- What comes of a text, by what was read of it
pub mod Texts
-- A text and its book, and texts of which something is said
pub mod Example
