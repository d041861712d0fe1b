-- Names for the contracts of this crate.
pub mod Puts
pub mod Standing
