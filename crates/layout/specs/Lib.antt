-- Where the fields of a record stand.
pub mod Marks
pub mod Fields
pub mod Letters
pub mod Places
