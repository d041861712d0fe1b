-- Scans of a list, zero bytes, and the theorems.
pub mod ListsLaws
pub mod ZeroLaws
pub mod Theorems
pub mod EveryLaws
pub mod SeenLaws
