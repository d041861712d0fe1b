-- Names for the contracts of this crate.
pub mod Answers
pub mod Sorts
pub mod Ticks
