-- The promises and the marked cases; the proof of a function stands in the function's folder.
pub mod Theorems
pub mod Moments
pub mod Figures
pub mod Marked
pub mod Bounds
