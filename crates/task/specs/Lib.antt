-- The rules of one task, in the order to read them.
pub mod State
pub mod Coming
pub mod Continuations
pub mod Turns
-- What they keep.
pub mod Promises
pub mod Continuing
pub mod Starting
