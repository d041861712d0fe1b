-- Laws that the proofs of the code share.
pub mod StirLaws
pub mod TickRuns
pub mod TickEnds
pub mod TimeLaws
