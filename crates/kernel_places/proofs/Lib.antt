-- Laws that the proofs of the code share.
pub mod SeenLaws
pub mod Closing
pub mod Behind
