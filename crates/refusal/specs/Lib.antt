-- The numbers of the refusals, and what an answer says in numbers.
pub mod Replies
