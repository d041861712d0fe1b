-- Laws that the proofs of the code share.
pub mod SetTill
pub mod Turning
pub mod SetOps
