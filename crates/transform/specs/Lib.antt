-- Linear functions by packed digits: the spectrum, the word and the test values as the code adds them up. In reading order.
pub mod Packed
pub mod Counts
pub mod Remainders
pub mod Transforms
pub mod Slots
