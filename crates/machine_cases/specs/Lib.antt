-- What the machine answers: document 01's marked cases and slips, continuations, waiting writers, turns, and refusals.
pub mod Marked
pub mod Slips
pub mod Continued
pub mod Writers
pub mod TurnCases
pub mod Numbered
pub mod Grounds
