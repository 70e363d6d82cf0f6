-- A tune in a wear report (SPECIFICATION 9.3). In reading order.
-- Definitions
pub mod WearLines
-- Which line it is, and how long it is
pub mod Lines
