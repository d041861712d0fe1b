-- Laws of whole records.
pub mod WholeLaws
