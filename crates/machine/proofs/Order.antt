-- The step's numbers for what the reader refuses.
use Rattle.std.specs.Prelude.{Err, Ok}
use mathlib.Core.Path.{◌≡◌, refl, sym, ap, ◌∙◌}
use mathlib.Core.Logic.{◌≢◌}
use mathlib.Core.Bool.{Bool, true, false, not, ◌&&◌}
use mathlib.Core.List.{List}
use Prim.Native.Nat.{ℕ, zero, suc}
use native.Mathlib.Omega.{arith}
use Rattle.layout.specs.Marks.{form}
use Rattle.record.specs.Refusals.{unless, first_refusal, formed, listed, timed, shape, times, refusal}
use Rattle.record.specs.Reading.{accepted, opened, or_refused, judged, reading}
use Rattle.layout.specs.declared.Mark.{Mark}
use Rattle.layout.specs.declared.Call.{Call}
use Rattle.record.proofs.ReaderLaws.{first_kept}
use Rattle.facts.proofs.Bools.{contra}
use Rattle.machine.specs.declared.Counts.{Counts}
use Rattle.machine.specs.declared.State.{State}
use Rattle.machine.specs.Running.{runner}
use Rattle.machine.specs.Test.{kernel_refusal}
use Rattle.machine.specs.declared.Sort.{Sort}
use Rattle.machine.specs.declared.Sort.TheVariants.{Declaration, OneTask, TheRunner, ListAsked, ListGiven, AnInterrupt, EveryTask}
use Rattle.machine.specs.Sorts.{sort_of, declaring, declares}
use Rattle.machine.specs.Refusals.{declared_by, declared_in, formal_refusal}
use Rattle.machine.specs.Step.{answered, carry_on, step}
use Rattle.machine.specs.Promises.{number_for, RefusedByReader, Order, RefusalsInOrder}
use Rattle.machine.proofs.Passed.{refusal_of}
use Rattle.machine.proofs.Cases.{opened_cases, carried_by, step_opened, step_on}

-- ---- shape or times

-- The chain of refusals 2 to 6, where shape (s) or times (t) refuse.
module _ (s t : ℕ) (six : t ≢ 0 → t ≡ 6) (some : first_refusal s t ≢ 0) where
  chain : (a d : Bool) (room state : ℕ)
      → first_refusal (unless a 2 (first_refusal s (unless d 5 (first_refusal t room)))) state ≡ unless a 2 (first_refusal s (unless d 5 6))
  chain false d room state = refl
  chain true d room state = go s t six some d
    where
      go : (s t : ℕ) → (t ≢ 0 → t ≡ 6) → first_refusal s t ≢ 0 → (d : Bool) → first_refusal (first_refusal s (unless d 5 (first_refusal t room))) state ≡ first_refusal s (unless d 5 6)
      go (suc s) t f g d = refl
      go zero t f g false = refl
      go zero zero f g true = absurd (g refl)
      go zero (suc t) f g true = f (λ e. omega arith)

first_some : (a d : Bool) (s : ℕ) → unless a 2 (first_refusal s (unless d 5 6)) ≢ 0
first_some false d s = λ e. omega arith
first_some true d (suc s) = λ e. omega arith
first_some true true zero = λ e. omega arith
first_some true false zero = λ e. omega arith

pub times_six : (day : ℕ) (c : Call) → times day c.head ≢ 0 → times day c.head ≡ 6
unfolding times
times_six day c = six (timed day (form c.head.mark) c.head)
  where
    six : (b : Bool) → unless b 6 0 ≢ 0 → unless b 6 0 ≡ 6
    six true h = absurd (h refl)
    six false h = refl

module _ (day : ℕ) (k : State) (c : Call) where
  abbrev late : Bool
  late = not (k.begun && declares c.head.mark)

  abbrev known : Bool
  known = declared_in c.head.mark k.counts c

  abbrev number : ℕ
  number = number_for k (Ok c.head) c.list

  refused_number : refusal day c ≢ 0 → refusal_of day k c ≡ number
  unfolding refusal refusal_of formal_refusal
  refused_number h =
      chain (shape c) (times day c.head) (times_six day c) h late known _ _

  on_refused : (n : ℕ) → refusal_of day k c ≡ n → n ≢ 0 → carry_on day k c ≡ answered k n (runner k)
  on_refused zero e h = absurd (h refl)
  on_refused (suc n) e h = carried_by day k c ∙ rw e

  carried : refusal day c ≢ 0 → carry_on day k c ≡ answered k number (runner k)
  carried h = on_refused number (refused_number h) (first_some late known (shape c))

-- The reader's number for bytes that open to c is that of shape or times.
read_number : (m n : ℕ) (c : Call) → (or_refused m (accepted c)).answer ≡ Err n → (m ≡ n) × (n ≢ 0)
read_number zero n c e = let z : ◌≡◌ {A = ℕ} 0 1 = cc in absurd (omega arith)
read_number (suc m) n c e = let q : suc m ≡ n = cc in (q, λ z. omega arith)

pub refused_by_reader : RefusedByReader
unfolding judged
refused_by_reader day k s n v e =
    rw (step_on day k s v)
    (opened_cases s
    (λ r. (judged day r.answer r).answer ≡ Err n → step_opened day k r.answer r.list ≡ answered k (number_for k r.answer r.list) (runner k))
    (λ e. refl) (λ c e. let (q, h) = read_number (refusal day c) n c e in carried day k c (λ z. h (sym q ∙ z))) e)

-- ---- where the numbers part

-- 3 and 4 are the shape's, and 6 is the times'.
shape_first : (s t n : ℕ) → (t ≢ 0 → t ≡ 6) → first_refusal s t ≡ n → n ≢ 0 → n ≢ 6 → s ≡ n
shape_first zero t n f e h g = absurd (g (sym e ∙ f (λ z. h (sym e ∙ z))))
shape_first (suc s) t n f e h g = e

times_last : (s t : ℕ) → s ≢ 6 → first_refusal s t ≡ 6 → s ≡ 0
times_last zero t h e = refl
times_last (suc s) t h e = absurd (h e)

shape_small : (c : Call) → shape c ≢ 6
unfolding shape
shape_small c = small (formed c) (listed (form c.head.mark) c)
  where
    small : (a b : Bool) → unless a 3 (unless b 4 0) ≢ 6
    small false b = λ e. omega arith
    small true true = λ e. omega arith
    small true false = λ e. omega arith

-- A declaration names nothing.
not_declared : (m : Mark) (n : Counts) (c : Call) → declared_in m n c ≡ false → declares m ≡ false
unfolding declares declared_by
not_declared m n c = go (sort_of m)
  where
    go : (s : Sort) → declared_by s n c ≡ false → declaring s ≡ false
    go Declaration e = contra refl e
    go OneTask e = refl
    go TheRunner e = refl
    go (ListAsked w b) e = refl
    go (ListGiven w) e = refl
    go AnInterrupt e = refl
    go EveryTask e = refl

and-false : (a b : Bool) → b ≡ false → (a && b) ≡ false
and-false true b e = e
and-false false b e = refl

module _ (day : ℕ) (k : State) (s : List ℕ) (c : Call) (v : kernel_refusal day k ≡ 0) (o : opened s ≡ accepted c) where
  stepped : step day k s ≡ carry_on day k c
  stepped = step_on day k s v ∙ rw o

  read : (n : ℕ) → (reading day s).answer ≡ Err n → (refusal day c ≡ n) × (n ≢ 0)
  unfolding judged
  read n e = read_number (refusal day c) n c (rw o at e)

  -- What the reader refuses, by its number.
  by_reader : (n m : ℕ) → (reading day s).answer ≡ Err n → number_for k (Ok c.head) c.list ≡ m → step day k s ≡ answered k m (runner k)
  by_reader n m e q = let (r, h) = read n e in stepped ∙ carried day k c (λ z. h (sym r ∙ z)) ∙ ap (λ (i : ℕ). answered k i (runner k)) q

  two : k.begun ≡ true → declares c.head.mark ≡ true → refusal_of day k c ≡ 2
  unfolding refusal_of formal_refusal
  two b d = rw (b, d)

  shape_read : (n : ℕ) → (reading day s).answer ≡ Err n → n ≢ 6 → shape c ≡ n
  unfolding refusal
  shape_read n e g = let (r, h) = read n e in shape_first (shape c) (times day c.head) n (times_six day c) r h g

  shape_passed : (reading day s).answer ≡ Err 6 → shape c ≡ 0
  unfolding refusal
  shape_passed e = times_last (shape c) (times day c.head) (shape_small c) (read 6 e).0

  in_order : Order day k s c
  in_order =
      record {
        late = λ b d. stepped ∙ on_refused day k c 2 (two b d) (λ z. omega arith);
        shaped = λ n l e g. by_reader n n e (rw (l, shape_read n e g) (sym (first_kept n _ (read n e).1)));
        unknown = λ e d. by_reader 6 5 e (rw (and-false k.begun _ (not_declared c.head.mark k.counts c d), shape_passed e, d));
        timed = λ l e d. by_reader 6 6 e (rw (l, shape_passed e, d));
      }

pub refusals_in_order : RefusalsInOrder
refusals_in_order = in_order
