-- What is known of a count of values.
pub mod Counts
