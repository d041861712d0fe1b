-- The balance of what `Kernel::fresh`, `Kernel::step`, the methods and the script function hand back.
pub mod Methods
pub mod Delivered
pub mod InTicks
pub mod Shown
pub mod Waited
pub mod Scripted
