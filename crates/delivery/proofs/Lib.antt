pub mod Methods
pub mod Delivered
pub mod InTicks
pub mod Shown
pub mod Waited
pub mod Scripted
