-- The balance (document 01): what is counted over a list of records, and the statement.
pub mod Counting
pub mod Fresh
pub mod Balance
pub mod InTicks
