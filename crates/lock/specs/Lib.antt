-- The rules of semaphores and bolts, and what they mean for a list of any length.
pub mod Locks
pub mod Promises
