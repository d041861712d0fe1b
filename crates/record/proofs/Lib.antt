-- Laws that several proofs cite, and the theorems.
pub mod FigureLaws
pub mod OpenedLaws
pub mod StretchLaws
pub mod UnusedLaws
pub mod CleanLaws
pub mod ShapeLaws
pub mod NumberLaws
pub mod ReaderLaws
pub mod Theorems
pub mod PositionLaws
pub mod GroundLaws
