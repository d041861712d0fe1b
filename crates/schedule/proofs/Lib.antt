-- Laws of alarms and schedules.
pub mod Starts
pub mod Triggers
pub mod Coming
