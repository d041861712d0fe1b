-- What is read from standard input.
use Rattle.std.specs.Prelude.{◌≡◌, Bool, true, false, cond, List, ℕ, ◌-◌, ◌%◌, ◌≤◌, ltb, length, take, Result, Ok, Err}
use Rattle.layout.specs.Fields.{record_length}
use Rattle.feed.specs.declared.Fed.{Fed}

-- Of n bytes those that are carried out: whole records while more may come, else all.
unfoldable pub whole_of : ℕ → Bool → ℕ
whole_of n more = cond more (n - n % record_length) n

-- The answer of a read that hasn't failed: no error.
abbrev pub went_well : {E : Type 0} → Result ℕ E → Bool
went_well (Ok n) = true
went_well (Err e) = false

-- How many bytes a read has brought, by its answer: none if it has failed.
abbrev pub brought : {E : Type 0} → Result ℕ E → ℕ
brought (Ok n) = n
brought (Err e) = 0

-- Nothing came behind the bytes that are held, and nothing more is to come: they are the last to be carried out.
pub record NothingRead (held : ℕ) (r : Fed) : Type 0 where
  pub total : r.total ≡ held
  pub more : r.more ≡ false
  pub whole : r.whole ≡ held

-- A read behind the bytes that are held: they stay, and what came lies within the buffer. More may come if something did.
pub record ReadOn (held : ℕ) (before after : List ℕ) (r : Fed) : Type 0 where
  pub kept : take held after ≡ take held before
  pub behind : held ≤ r.total
  pub within : r.total ≤ length after
  pub came : r.more ≡ ltb held r.total
  pub whole : r.whole ≡ whole_of r.total r.more
