-- The calendar's rules, in the order to read them.
pub mod Limits
pub mod Times
pub mod Moments
pub mod Dues
pub mod Promises
pub mod Figures
pub mod Marked
