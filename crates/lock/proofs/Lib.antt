-- Laws of semaphores and bolts.
pub mod Bits
pub mod Levels
pub mod Taking
pub mod Fewer
pub mod Exclusion
pub mod Changes
pub mod Each
pub mod Alike
pub mod Rests
