-- What is read.
pub mod Feeding
