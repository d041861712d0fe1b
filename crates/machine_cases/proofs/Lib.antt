-- What is short is computed; long rows of ticks go by the law of quiet ticks.
pub mod Waits
pub mod Evening
pub mod Marked
pub mod Slips
pub mod Continued
pub mod Writers
pub mod TurnCases
pub mod Numbered
pub mod Grounds
