-- The record form's rules, in the order to read them.
pub mod Refusals
pub mod Numbers
pub mod Stretches
pub mod Reading
pub mod Writing
pub mod Promises
pub mod Positions
pub mod Grounds
