-- The stretches that a form and its kinds leave unused, as the code tests them.
use mathlib.Core.Path.{◌≡◌, refl, sym, ◌∙◌, ap}
use mathlib.Core.Bool.{Bool, true, false, ◌&&◌, ◌||◌, and_assoc, and-true}
use mathlib.Core.List.{List, ◌∷◌}
use Prim.Native.Nat.{ℕ, zero, suc, ◌+◌, ◌-◌, ◌≤◌, ◌<◌}
use native.Mathlib.Omega.{arith}
use borrow.Author.Tests.{ne_eqb, lt-ltb, le-ltb}
use lib.Dec.{leb, ltb, eqb}
use lib.ListN.{length, drop, length-drop}
use lib.Seq.{take_all}
use Rattle.lists.specs.Lists.{stretch, all_zero}
use Rattle.record.specs.Refusals.{last_kind, last_plain_kind, last_end_kind, on_interrupt, at_time, after_duration, plain_use, start, going}
use Rattle.record.specs.Stretches.{start_bytes, used_start, used_bytes, grown, stretches, unused, zero_in}
use Rattle.record.proofs.StretchLaws.{one, two, used_or_zero, zero_in_law, zero_run}
use Rattle.layout.specs.Fields.{most_numbers}

module _ (s : List ℕ) where
  abbrev zeroes : ℕ → ℕ → Bool
  zeroes a b = all_zero (stretch s a b)

  -- ---- behind the kind of a CONTINUE or RESUME

  abbrev Going : Bool → Bool → Bool
  Going w f = zero_in s (stretches 10 (start_bytes w false f false false))

  -- WHEN or not, with a first time or without.
  when_first : (zeroes 11 12 && zeroes 16 24) ≡ Going true true
  unfolding stretches grown
  when_first = two s 11 1 16 8

  first : (zeroes 10 12 && zeroes 16 24) ≡ Going false true
  unfolding stretches grown
  first = two s 10 2 16 8

  when : zeroes 11 24 ≡ Going true false
  unfolding stretches grown
  when = one s 11 13

  neither : zeroes 10 24 ≡ Going false false
  unfolding stretches grown
  neither = one s 10 14

  module _ (w f : Bool) {r : Bool} where
    pub going_when_first : {q : Bool} → w ≡ true → f ≡ true → r ≡ zeroes 11 12 → q ≡ zeroes 16 24 → (r && q) ≡ Going w f
    going_when_first ew ef er eq = rw (ew, ef, er, eq) when_first

    pub going_first : {q : Bool} → w ≡ false → f ≡ true → r ≡ zeroes 10 12 → q ≡ zeroes 16 24 → (r && q) ≡ Going w f
    going_first ew ef er eq = rw (ew, ef, er, eq) first

    pub going_when : w ≡ true → f ≡ false → r ≡ zeroes 11 24 → r ≡ Going w f
    going_when ew ef er = rw (ew, ef, er) when

    pub going_neither : w ≡ false → f ≡ false → r ≡ zeroes 10 24 → r ≡ Going w f
    going_neither ew ef er = rw (ew, ef, er) neither

  -- ---- behind the kind of an activation

  -- All but the end time.
  abbrev Scheduled : ℕ → Bool
  Scheduled kind = zero_in s (stretches 10 (start_bytes (on_interrupt kind) true (at_time kind || after_duration kind) true true))

  module _ (kind : ℕ) where
    pub with_at : {r : Bool} → kind ≡ 1 → r ≡ zeroes 10 11 → r ≡ Scheduled kind
    unfolding stretches grown
    with_at k e = rw (k, e) (one s 10 1)

    pub with_after : {r : Bool} → kind ≡ 2 → r ≡ zeroes 10 11 → r ≡ Scheduled kind
    unfolding stretches grown
    with_after k e = rw (k, e) (one s 10 1)

    pub with_when : {r : Bool} → kind ≡ 3 → r ≡ zeroes 12 16 → r ≡ Scheduled kind
    unfolding stretches grown
    with_when k e = rw (k, e) (one s 12 4)

    pub with_when_after : kind ≡ 4 → true ≡ Scheduled kind
    unfolding stretches grown zero_in
    with_when_after k = rw k

    pub with_all : {r q : Bool} → (kind ≡ 1 → ⊥) → (kind ≡ 2 → ⊥) → (kind ≡ 3 → ⊥) → (kind ≡ 4 → ⊥) → r ≡ zeroes 10 11 → q ≡ zeroes 12 16 → (r && q) ≡ Scheduled kind
    unfolding stretches grown
    with_all n1 n2 n3 n4 er eq = rw (ne_eqb kind 1 n1, ne_eqb kind 2 n2, ne_eqb kind 3 n3, ne_eqb kind 4 n4, er, eq) (two s 10 1 12 4)

  -- The fields of `start`.
  abbrev Started : ℕ → ℕ → Bool
  Started kind endkind =
      zero_in s (stretches 10 (start_bytes (on_interrupt kind) (ltb 0 kind) (at_time kind || after_duration kind) (ltb 0 kind) (ltb 0 endkind)))

  none_but_end : zeroes 10 20 ≡ zero_in s (stretches 10 (start_bytes false false false false true))
  unfolding stretches grown
  none_but_end = one s 10 10

  end_apart : (w f : Bool) → (zero_in s (stretches 10 (start_bytes w true f true true)) && zeroes 20 24) ≡ zero_in s (stretches 10 (start_bytes w true f true false))
  unfolding used_or_zero
  end_apart w f =
      rw (zero_in_law s 10 (start_bytes w true f true true), zero_in_law s 10 (start_bytes w true f true false), zero_run s 20 4)
      (simp (and_assoc, and-true))

  positive : (n : ℕ) → (n ≡ 0 → ⊥) → ltb 0 n ≡ true
  positive zero ne = absurd (ne refl)
  positive (suc n) ne = lt-ltb 0 (suc n) (omega arith)

  module _ (kind endkind : ℕ) {r : Bool} where
    pub unscheduled_end : kind ≡ 0 → 0 < endkind → r ≡ zeroes 10 20 → r ≡ Started kind endkind
    unscheduled_end k e er = rw (k, lt-ltb 0 endkind e, er) none_but_end

    pub unscheduled : kind ≡ 0 → endkind ≤ 0 → r ≡ zeroes 10 24 → r ≡ Started kind endkind
    unscheduled k e er = rw (k, le-ltb 0 endkind e, er) neither

    pub with_end : (kind ≡ 0 → ⊥) → 0 < endkind → r ≡ Scheduled kind → r ≡ Started kind endkind
    with_end k e er = rw (positive kind k, lt-ltb 0 endkind e) er

    pub without_end : {q : Bool} → (kind ≡ 0 → ⊥) → endkind ≤ 0 → r ≡ Scheduled kind → q ≡ zeroes 20 24 → (r && q) ≡ Started kind endkind
    without_end k e er eq = rw (positive kind k, le-ltb 0 endkind e, er, eq) (end_apart (on_interrupt kind) (at_time kind || after_duration kind))

  -- ---- before the kind

  -- Length and list, where there is no list; and with them number and priority.
  pub no_list_law : (rest : List Bool) → (zeroes 4 9 && zero_in s (stretches 10 rest)) ≡ zero_in s (stretches 0 (true ∷ true ∷ true ∷ true ∷ false ∷ false ∷ false ∷ false ∷ false ∷ true ∷ rest))
  unfolding used_or_zero
  no_list_law rest = rw (zero_in_law s 0 _, zero_in_law s 10 rest, zero_run s 4 5) (simp (and_assoc, and-true))

  pub no_names_law : (rest : List Bool) → (zeroes 2 9 && zero_in s (stretches 10 rest)) ≡ zero_in s (stretches 0 (true ∷ true ∷ false ∷ false ∷ false ∷ false ∷ false ∷ false ∷ false ∷ true ∷ rest))
  unfolding used_or_zero
  no_names_law rest = rw (zero_in_law s 0 _, zero_in_law s 10 rest, zero_run s 2 7) (simp (and_assoc, and-true))

  module _ (kind : ℕ) {w f r q : Bool} (ew : w ≡ on_interrupt kind) (eq : q ≡ Going w f) where
    pub continuation : f ≡ (at_time kind || after_duration kind) → r ≡ zeroes 4 9 → (leb kind last_plain_kind && r && q) ≡ (leb kind last_plain_kind && zero_in s (unused (going true (at_time kind || after_duration kind) kind) 0))
    unfolding used_bytes
    continuation ef er = rw (er, eq, ew, ef) (and_assoc (leb kind last_plain_kind) _ _ ∙ ap (λ (z : Bool). leb kind last_plain_kind && z) (no_list_law (start_bytes (on_interrupt kind) false (at_time kind || after_duration kind) false false)))

    pub resumption : f ≡ (eqb kind 0 || (at_time kind || after_duration kind)) → r ≡ zeroes 2 9 → (leb kind last_plain_kind && r && q) ≡ (leb kind last_plain_kind && zero_in s (unused (going false (eqb kind 0 || (at_time kind || after_duration kind)) kind) 0))
    unfolding used_bytes
    resumption ef er = rw (er, eq, ew, ef) (and_assoc (leb kind last_plain_kind) _ _ ∙ ap (λ (z : Bool). leb kind last_plain_kind && z) (no_names_law (start_bytes (on_interrupt kind) false (eqb kind 0 || (at_time kind || after_duration kind)) false false)))

  pub activation : (kind endkind : ℕ) {r q : Bool} → r ≡ zeroes 4 9 → q ≡ Started kind endkind → (leb kind last_kind && leb endkind last_end_kind && r && q) ≡ (leb kind last_kind && leb endkind last_end_kind && zero_in s (unused (start kind endkind) 0))
  unfolding used_bytes
  activation kind endkind er eq = rw (er, eq) (and_assoc (leb kind last_kind && leb endkind last_end_kind) _ _ ∙ ap (λ (z : Bool). leb kind last_kind && leb endkind last_end_kind && z) (no_list_law (used_start (start kind endkind))))

  -- ---- a list

  module _ (long : length s ≡ 24) where
    pub past : (n : ℕ) → all_zero (stretch s n 24) ≡ all_zero (drop n s)
    past n =
        let whole : length (drop n s) ≤ 24 - n = simp length-drop (omega arith) in
        rw (take_all (24 - n) (drop n s) whole)

    -- All behind a list of k numbers.
    pub past_at : (k : ℕ) {n : ℕ} {r : Bool} → n ≡ k → r ≡ zeroes (5 + k) 24 → r ≡ all_zero (drop (5 + n) s)
    past_at k e er = er ∙ past (5 + k) ∙ ap (λ (i : ℕ). all_zero (drop (5 + i) s)) (sym e)

    pub past_four : {n : ℕ} {r : Bool} → (n ≡ 0 → ⊥) → (n ≡ 1 → ⊥) → (n ≡ 2 → ⊥) → (n ≡ 3 → ⊥) → n ≤ most_numbers → r ≡ zeroes 9 24 → r ≡ all_zero (drop (5 + n) s)
    past_four {n} n0 n1 n2 n3 h er = past_at 4 (four n n0 n1 n2 n3 h) er where
      four : (n : ℕ) → (n ≡ 0 → ⊥) → (n ≡ 1 → ⊥) → (n ≡ 2 → ⊥) → (n ≡ 3 → ⊥) → n ≤ most_numbers → n ≡ 4
      four zero n0 n1 n2 n3 h = absurd (n0 refl)
      four (suc zero) n0 n1 n2 n3 h = absurd (n1 refl)
      four (suc (suc zero)) n0 n1 n2 n3 h = absurd (n2 refl)
      four (suc (suc (suc zero))) n0 n1 n2 n3 h = absurd (n3 refl)
      four (suc (suc (suc (suc n)))) n0 n1 n2 n3 h = omega arith

    pub with_list : (n : ℕ) → n ≤ most_numbers → (zeroes 2 4 && all_zero (drop (5 + n) s)) ≡ zero_in s (unused (plain_use false false true false) n)
    unfolding used_bytes stretches grown
    with_list zero h = rw (sym (past 5)) (two s 2 2 5 19)
    with_list (suc zero) h = rw (sym (past 6)) (two s 2 2 6 18)
    with_list (suc (suc zero)) h = rw (sym (past 7)) (two s 2 2 7 17)
    with_list (suc (suc (suc zero))) h = rw (sym (past 8)) (two s 2 2 8 16)
    with_list (suc (suc (suc (suc zero)))) h = rw (sym (past 9)) (two s 2 2 9 15)
    with_list (suc (suc (suc (suc (suc n))))) h = absurd (omega arith)
