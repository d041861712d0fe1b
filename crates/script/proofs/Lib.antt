-- Laws of scripts.
pub mod RecordLaws
pub mod CarryLaws
pub mod PrintLaws
pub mod Going
-- Proofs of the promises.
pub mod AnswerLaws
pub mod PromiseProofs
pub mod WholeProofs
-- One run over the rest of a script.
pub mod TurnLaws
