-- Quiet ticks, and the bytes of a tick.
use Rattle.std.specs.Prelude.{None, Some}
use mathlib.Core.Path.{◌≡◌, refl}
use mathlib.Core.Bool.{Bool, true, false, ◌&&◌}
use mathlib.Core.List.{List, [], ◌∷◌}
use Prim.Native.Nat.{ℕ, zero, suc, ◌+◌, ◌-◌, ◌/◌, ◌%◌}
use native.Mathlib.Omega.{arith}
use lib.Dec.{eqb, ltb}
use lib.ListN.{length, get_or, drop, replicate}
use borrow.Author.Tests.{ne_eqb, eqb-true, ltb-true, ltb-false, lt-ltb, le-ltb}
use Rattle.calendar.specs.Limits.{last_instant}
use Rattle.calendar.specs.Moments.{capped_at, Moment}
use Rattle.calendar.specs.declared.Instant.{Instant}
use Rattle.layout.specs.Fields.{record_length, bytes_of}
use Rattle.layout.specs.Marks.{code}
use Rattle.layout.specs.declared.Mark.TheVariants.{TI}
use Rattle.facts.proofs.Bools.{by_bool, contra, both}
use Rattle.lists.specs.Lists.{all_zero}
use Rattle.machine.specs.Scripts.{one_tick}
use Rattle.kernel_values.specs.Ticks.{is_tick, is_quiet}

-- ---- quiet ticks

-- The test by one number: the next event, but at most the instant behind the last.
pub quiet_is : (n : Instant) (next : Moment) → ltb (n.0 + 1) (capped_at (last_instant + 1) next) ≡ is_quiet n next
unfolding is_quiet
quiet_is n None =
    by_bool (ltb n.0 last_instant) (λ e. rw (e, lt-ltb (n.0 + 1) (last_instant + 1) (omega (arith, ltb-true n.0 last_instant e))))
    (λ e. rw (e, le-ltb (n.0 + 1) (last_instant + 1) (omega (arith, ltb-false n.0 last_instant e))))
quiet_is n (Some m) =
    by_bool (ltb n.0 last_instant)
    (λ e. by_bool (ltb m.0 (last_instant + 1)) (λ f. rw (e, f))
    (λ f. rw (e, f, lt-ltb (n.0 + 1) (last_instant + 1) (omega (arith, ltb-true n.0 last_instant e)), lt-ltb (n.0 + 1) m.0 (omega (arith, ltb-true n.0 last_instant e, ltb-false m.0 (last_instant + 1) f)))))
    (λ e. by_bool (ltb m.0 (last_instant + 1)) (λ f. rw (e, f, le-ltb (n.0 + 1) m.0 (omega (arith, ltb-false n.0 last_instant e, ltb-true m.0 (last_instant + 1) f))))
    (λ f. rw (e, f, le-ltb (n.0 + 1) (last_instant + 1) (omega (arith, ltb-false n.0 last_instant e)))))

-- ---- the bytes of a tick

zeros_are : (n : ℕ) (s : List ℕ) → length s ≡ n → all_zero s ≡ true → s ≡ replicate n 0
unfolding all_zero
zeros_are zero [] e z = refl
zeros_are zero (x ∷ s) e z = absurd (omega arith)
zeros_are (suc n) [] e z = absurd (omega arith)
zeros_are (suc n) (x ∷ s) e z =
    let p = both (eqb x 0) (all_zero s) z in
    rw (eqb-true x 0 p.0, zeros_are n s (omega arith) p.1)

-- The two letters.
abbrev letter_t : ℕ
letter_t = code TI / 256

abbrev letter_i : ℕ
letter_i = code TI % 256

pub tick_bytes : (s : List ℕ) → is_tick s ≡ true → s ≡ one_tick
unfolding bytes_of
tick_bytes [] e = absurd (contra e refl)
tick_bytes (x ∷ []) e = absurd (contra e refl)
tick_bytes (x ∷ y ∷ s) e =
    let p = both (eqb (length (x ∷ y ∷ s)) record_length && eqb x letter_t && eqb y letter_i) (all_zero s) e in
    let q = both (eqb (length (x ∷ y ∷ s)) record_length && eqb x letter_t) (eqb y letter_i) p.0 in
    let r = both (eqb (length (x ∷ y ∷ s)) record_length) (eqb x letter_t) q.0 in
    let l : length s ≡ record_length - 2 = omega (arith, eqb-true (length (x ∷ y ∷ s)) record_length r.0) in
    rw (eqb-true x letter_t r.1, eqb-true y letter_i q.1, zeros_are (record_length - 2) s l p.1) refl
