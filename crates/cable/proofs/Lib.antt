-- Arrays made by a function of the index.
pub mod Made
