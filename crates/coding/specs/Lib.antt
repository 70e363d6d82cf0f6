-- The code and its decoding: what is promised, and the theory that proves it. In reading order.
-- Definitions and promises
pub mod Code
pub mod Promise
-- Polynomials of messages, cards as linear functions, and their spectrum
pub mod Coefficients
pub mod Cards
pub mod Spectrum
pub mod WordSpectrum
pub mod Linearity
-- Decoding as a definition
pub mod Options
pub mod Answers
pub mod Decode
-- Words are far apart
pub mod Interpolation
pub mod Finish
pub mod Points
pub mod Apart
-- The test values
pub mod Mu
pub mod Traces
pub mod TestValues
-- The promises kept
pub mod Proved
-- Decoding by algebra: the error's coefficients and their equations
pub mod Errors
pub mod Annihilator
pub mod Window
pub mod RankOne
-- and so for each k
pub mod Clean
pub mod Residual
pub mod DecodeOne
pub mod DecodeTwo
pub mod DecodeSingle
-- Cards of low rank
pub mod LowRank
