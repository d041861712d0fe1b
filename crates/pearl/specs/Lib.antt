-- Statements of a program as calls.
pub mod Calls
