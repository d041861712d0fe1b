-- Laws that the proofs of the code share.
pub mod Surveying
pub mod TaskFit
pub mod TestLaws
pub mod SoundLaws
pub mod AskLaws
