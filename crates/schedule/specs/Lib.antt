-- The rules of alarms and schedules, in the order to read them.
pub mod Alarms
pub mod Coming
pub mod Schedules
-- What they keep.
pub mod Promises
