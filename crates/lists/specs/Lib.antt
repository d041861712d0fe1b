-- Facts about lists of numbers.
pub mod Lists
pub mod Promises
