-- What owning a kernel tells, and laws of counts, of sorts and of ticks.
pub mod Owned
pub mod CountLaws
pub mod SortLaws
pub mod TickLaws
