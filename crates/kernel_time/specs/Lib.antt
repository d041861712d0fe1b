-- Names for the contracts of the code's inner functions.
pub mod Stirring
