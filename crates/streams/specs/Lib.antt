-- What is known of a program's input. In reading order.
pub mod Inputs
