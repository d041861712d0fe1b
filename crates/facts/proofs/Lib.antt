-- Laws that are about no crate.
pub mod Bools
pub mod Tables
pub mod Numbers
