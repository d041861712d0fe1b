-- The lines of text that stand for answers, in the order to read it.
pub mod Buffers
pub mod Decimals
pub mod Lines
pub mod Printed
