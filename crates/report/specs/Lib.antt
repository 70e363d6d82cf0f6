-- Reports of a tune book (SPECIFICATION 9.1 and 9.3). In reading order.
-- Definitions
pub mod Reports
-- How long a report is
pub mod Sizes
-- What a report is, by what Open says; and what a caller learns from the answer
pub mod Answers
-- The examples: document 01's, its listing and its wear; and one of the last bell
pub mod Example
pub mod WearExample
pub mod BellExample
