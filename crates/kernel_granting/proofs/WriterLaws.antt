-- The table of the writers who wait: one number, a list, one task, and what the table is good for.
use mathlib.Core.Path.{◌≡◌, refl, sym, ◌∙◌}
use mathlib.Core.Logic.{◌≢◌}
use mathlib.Core.Bool.{Bool, true, false, not, ◌&&◌, ◌||◌, and-true, and-false}
use mathlib.Core.List.{List, [], ◌∷◌}
use Prim.Native.Nat.{ℕ, ◌+◌, ◌≤◌, ◌<◌, min}
use native.Mathlib.Nat.{le_antisymm}
use native.Mathlib.Numerals.{add-one}
use native.Mathlib.Omega.{arith}
use lib.Dec.{leb, ltb, eqb}
use lib.ListN.{length, get_or, set, take, drop, drop_of_length-le, get_or-replicate}
use lib.Seq.{get_or-set_same, get_or-set_other}
use borrow.Author.Tests.{lt-ltb, le-ltb, leb-true, leb-false, eq-eqb, ne_eqb, not-true, not-false}
use Rattle.kernel_values.proofs.CountLaws.{clipped}
use Rattle.lists.specs.Lists.{names}
use Rattle.layout.specs.Fields.{most_numbers}
use Rattle.lock.specs.Locks.{most_locks, same_kind, value_at, bolt_at, is_free}
use Rattle.lock.specs.declared.Wait.{Wait}
use Rattle.lock.specs.declared.Wait.TheVariants.{Reserve, Enter}
use Rattle.lock.specs.declared.Locks.{Locks}
use Rattle.facts.proofs.Bools.{by_bool, by_eq, contra}
use Rattle.lists.proofs.SeenLaws.{left_next}
use Rattle.task.specs.declared.Task.{Task}
use Rattle.machine.specs.Sums.{all_below}
use Rattle.machine.specs.State.{task_at}
use Rattle.machine.specs.Granting.{unopposed, available}
use Rattle.machine.specs.Test.{most_priority}
use Rattle.kernel_granting.specs.Writers.{no_writers, passes, Lowered, Tells, Told, Known, TellsFor, Shows}
use Rattle.kernel_granting.specs.declared.Writers.{Writers}

-- ---- one number

-- No writer is added for a bolt that isn't named.
unnamed : (a b : Bool) → a ≡ (a && not (b && false))
unnamed false b = refl
unnamed true b = rw (and-false b)

elsewhere : (a b : Bool) (x y : ℕ) → x ≢ y → a ≡ (a && not (b && names (x ∷ []) y))
unfolding names
elsewhere a b x y h = rw (ne_eqb x y h) (unnamed a b)

-- Below the smaller of two is below both.
below_both : (q f p : ℕ) → ltb q (min f p) ≡ (ltb q f && not (leb p q && true))
below_both q f p = grind arith

module _ (w : Writers) (p x : ℕ) where
  -- A number that is no bolt's,
  pub number_beyond : most_locks ≤ x → Lowered w p (x ∷ []) w
  number_beyond h q y b l = elsewhere (passes w q y) (leb p q) x y (λ e. omega arith)

  -- and one that is.
  pub number_lowered : x < length w.first → Lowered w p (x ∷ []) (record { known = w.known; first = set w.first x (min (get_or w.first x 0) p) })
  unfolding names
  number_lowered room q y b l =
      by_eq x y
      (λ e. rw (← e, eq-eqb x x refl, get_or-set_same w.first x (min (get_or w.first x 0) p) 0 room) (below_both q (get_or w.first x 0) p))
      (λ e. rw (get_or-set_other w.first x y (min (get_or w.first x 0) p) 0 (λ z. e (sym z))) (elsewhere (passes w q y) (leb p q) x y e))

-- ---- a list

-- The numbers before j of a list have made of the table w the table `now`.
pub record Lowering (w : Writers) (p : ℕ) (l : List ℕ) (j : ℕ) (now : Writers) : Type 0 where
  pub rest : (q x : ℕ) → q ≤ most_priority → x < most_locks
      → (passes w q x && not (leb p q && names l x)) ≡ (passes now q x && not (leb p q && names (drop j l) x))

one_less : (a b e s : Bool) → (a && not (b && (e || s))) ≡ ((a && not (b && (e || false))) && not (b && s))
one_less false b e s = refl
one_less true false e s = refl
one_less true true true s = refl
one_less true true false s = refl

module _ {w : Writers} {p : ℕ} {l : List ℕ} {j : ℕ} {now : Writers} (h : Lowering w p l j now) where
  pub lowering_more : (next : Writers) → j < length l → Lowered now p (get_or l j 0 ∷ []) next → Lowering w p l (j + 1) next
  unfolding names
  lowering_more next less f =
      record {
        rest = λ q x b z. h.rest q x b z ∙ rw (left_next l j less, f q x b z) (one_less (passes now q x) (leb p q) (eqb (get_or l j 0) x) (names (drop (j + 1) l) x));
      }

  pub lowering_all : length l ≤ j → Lowered w p l now
  unfolding names
  lowering_all e q x b z =
      unnamed (passes now q x) (leb p q) ∙ sym (h.rest q x b z ∙ rw (drop_of_length-le l e))

-- ---- the tasks

pub tells_none : (ts : List Task) → Tells 0 ts no_writers
unfolding unopposed all_below
tells_none ts q x b l = rw (get_or-replicate {A = ℕ} most_locks x 256 0 l, lt-ltb q 256 (omega arith))

-- Task i is t, and the table w tells of those before it: the table r that a look has once it has come past t.
module _ (ts : List Task) (i : ℕ) (t : Task) (here : t ≡ task_at ts i) (w r : Writers) (h : Tells i ts w) where
  -- A task that waits in no RESERVE,
  pub tells_passed : same_kind t.wait Reserve ≡ false → r ≡ w → Tells (i + 1) ts r
  unfolding unopposed all_below
  tells_passed e z q x b l = rw (z, add-one, ← here, e, and-true) (h q x b l)

  -- and one that does.
  pub tells_more : (next : Writers) → same_kind t.wait Reserve ≡ true → length t.list ≡ most_numbers → {m : ℕ} → m ≡ min t.len most_numbers
      → Lowered w t.current (take m t.list) next → r ≡ next → Tells (i + 1) ts r
  unfolding unopposed all_below
  tells_more next e long n f z q x b l =
      rw z (f q x b l ∙ rw (add-one, ← here, e, n, clipped t.len t.list long, h q x b l))

-- ---- what the table is good for

pub known_none : (n : ℕ) (ts : List Task) → Known n ts no_writers
known_none n ts e = contra e refl

-- The table r that a scan has where it tries a list of the kind v, of the table w: it says what the list depends on.
module _ (v : Wait) (n : ℕ) (ts : List Task) {w r : Writers} (z : r ≡ w) where
  -- The tasks were looked at,
  pub ready_told : Told n ts w → Known n ts r × TellsFor v n ts r
  ready_told h = rw z (λ e. h.tells, λ e. h.tells)

  -- or nothing was missing.
  pub ready_known : {b : Bool} → Known n ts w → b ≡ (same_kind v Enter && not w.known) → b ≡ false → Known n ts r × TellsFor v n ts r
  ready_known h said e = rw z (h, λ k. h (not-false w.known (sym (rw k at said) ∙ e)))

-- A number is there if it is free, and for one who enters if no writer goes before.
module _ (n : ℕ) (ts : List Task) (r : Locks) (q x : ℕ) (v : Wait) where
  pub there : (e : Bool) {b f : Bool} → b ≡ is_free v r x → e ≡ same_kind v Enter → (e ≡ true → f ≡ unopposed n ts q x) → (b && (not e || f)) ≡ available n ts r q v x
  unfolding available
  there true said k h = rw (said, ← k, h refl)
  there false said k h = rw (said, ← k)

-- A number as it is read.
pub shows_here : (l : Locks) (t : Writers) (x : ℕ) → x < most_locks → Shows l t x (value_at l x) (bolt_at l x) (get_or t.first x 0)
shows_here l t x h = record { place = h; value = refl; bolt = refl; writer = refl }
