-- What is written of the tasks that wait.
pub mod Text
