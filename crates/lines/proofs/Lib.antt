-- Texts in a buffer, decimals and lines.
pub mod PlacedLaws
pub mod DecimalLaws
pub mod AnswerLines
pub mod LineLaws
