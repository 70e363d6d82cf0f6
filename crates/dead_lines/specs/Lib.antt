-- Cards with dead lines: what is promised of decoding them, and the theory that proves it. In reading order.
-- Definitions
pub mod Struck
-- Dead lines made 0 leave the same rank
pub mod Blanked
-- At most one message is near
pub mod OneNear
-- Decoding with dead lines as a definition
pub mod DecodeDead
-- Steps that forget dead lines
pub mod Steps
pub mod Multipliers
-- An error, all steps made: its rank, and what the message hides of it
pub mod Hidden
-- What is run, and that it is the definition
pub mod Solving
