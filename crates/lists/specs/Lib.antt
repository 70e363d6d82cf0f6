-- The loops over lent lists: one turn of each, and their ends.
pub mod Scanning
pub mod Filling
