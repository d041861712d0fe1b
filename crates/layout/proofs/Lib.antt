-- Letters and places, and marks and fields there and back.
pub mod ByteLaws
pub mod MarksLaws
pub mod FieldsLaws
