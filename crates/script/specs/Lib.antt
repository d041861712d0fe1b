-- A script of records and the text that is printed for it, in the order to read it.
pub mod Records
pub mod Printed
pub mod Script
pub mod Promises
pub mod Marked
