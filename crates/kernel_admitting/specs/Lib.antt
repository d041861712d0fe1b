-- A name for a contract of this crate.
pub mod Admits
