-- The lines of the tasks looked at so far.
use Rattle.std.specs.Prelude.{Some}
use mathlib.Core.Path.{◌≡◌, refl}
use mathlib.Core.List.{List, [], ◌∷◌}
use Prim.Native.Nat.{ℕ, ◌+◌, ◌≤◌}
use native.Mathlib.Nat.{le_antisymm}
use native.Mathlib.Numerals.{add-one}
use lib.ListN.{length}
use Rattle.lines.specs.Buffers.{Wrote}
use Rattle.lines.specs.Decimals.{decimal, spelt}
use Rattle.lines.proofs.PlacedLaws.{wrote_nothing, then}
use Rattle.machine.specs.State.{most_tasks}
use Rattle.machine.specs.declared.State.{State}
use Rattle.wait_bound.specs.Queue.{Bound, bound_of}
use Rattle.wait_lines.specs.Text.{wait_line, bound_text, text_below, wait_text}

module _ (k : State) (before : List ℕ) (at : ℕ) where
  pub text_none : Wrote before at (text_below 0 k) before at
  unfolding text_below
  text_none = wrote_nothing before at

  pub text_more : (i : ℕ) {b : Bound} {now next : List ℕ} {end after : ℕ} → Wrote before at (text_below i k) now end → end ≤ length before
      → b ≡ bound_of k i → Wrote now end (bound_text i b) next after → Wrote before at (text_below (i + 1) k) next after
  unfolding text_below
  text_more i w room e v = rw (add-one i, ← e) (then w v room)

  pub text_all : {i : ℕ} {now : List ℕ} {end : ℕ} → i ≤ most_tasks → most_tasks ≤ i → Wrote before at (text_below i k) now end → Wrote before at (wait_text k) now end
  unfolding wait_text
  text_all below above w = rw (← le_antisymm below above) w

-- 3 0 12
example : bound_text 3 (Some (record { semaphore = 0; number = 12 })) ≡ 51 ∷ 32 ∷ 48 ∷ 32 ∷ 49 ∷ 50 ∷ 10 ∷ []
unfolding bound_text wait_line decimal spelt
example = refl
