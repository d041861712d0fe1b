-- Laws of one task's turn.
pub mod Dues
pub mod Alike
pub mod Fairness
pub mod Continuing
pub mod Firing
pub mod Starting
pub mod Waits
pub mod Laws
