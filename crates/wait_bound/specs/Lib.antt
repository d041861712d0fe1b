-- How long a waiting task waits (request 4).
pub mod Queue
pub mod Stages
pub mod Waiting
pub mod Needed
pub mod Priorities
