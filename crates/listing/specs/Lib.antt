-- A tune in a listing (SPECIFICATION 9.1). In reading order.
-- Definitions
pub mod Listing
-- How long the texts are
pub mod Sizes
-- Laws of the loop over cards
pub mod Lines
