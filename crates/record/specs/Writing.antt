-- What the writer hands back for any call or declaration.
use Rattle.std.specs.Prelude.{ℕ, zero, suc, replicate}
use Rattle.layout.specs.declared.Call.{Call}
use Rattle.record.specs.declared.Written.{Written}
use Rattle.layout.specs.Fields.{record_length, bytes_of}
use Rattle.record.specs.Refusals.{refusal}

-- The record, or the refusal's number with zero bytes.
abbrev pub or_zeros : ℕ → Call → Written
or_zeros zero c = record { number = 0; bytes = bytes_of c }
or_zeros (suc n) c = record { number = suc n; bytes = replicate record_length 0 }

-- The writer.
abbrev pub written : ℕ → Call → Written
written day c = or_zeros (refusal day c) c
