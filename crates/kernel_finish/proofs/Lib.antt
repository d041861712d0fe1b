-- Laws that the proofs of the code share.
pub mod Scanning
pub mod EndLaws
pub mod EveryTask
