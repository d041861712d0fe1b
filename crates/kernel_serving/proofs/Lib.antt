-- Laws that the proofs of the code share.
pub mod WaitLaws
pub mod ServeLaws
