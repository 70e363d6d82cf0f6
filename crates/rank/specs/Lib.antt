-- The rank of a card (SPECIFICATION 3 and 8.2). In reading order.
-- Definitions
pub mod Definitions
-- The theory: independent symbols and spans, the rank as the least number of spanning symbols, the metric, one symbol more, the transpose
pub mod Dimension
pub mod Clearing
pub mod Echelon
pub mod Distance
pub mod Extension
pub mod Transpose
pub mod Separation
-- Elimination as the code does it, its arrays and its loops
pub mod Elimination
pub mod Arrays
pub mod Loops
-- Why it counts the rank: rows as symbols, the chosen rows, the chosen columns and their mask, the subtractions
pub mod Rows
pub mod DigitSquare
pub mod PivotRows
pub mod PivotColumns
pub mod Mask
pub mod Subtractions
-- What Weigh answers
pub mod Weight
