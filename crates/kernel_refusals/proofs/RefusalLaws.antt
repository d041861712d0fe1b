-- What the state refuses, by the sort of the mark.
use Rattle.std.specs.Prelude.{Result, Err, Ok, cond}
use mathlib.Core.Path.{◌≡◌, refl, sym, ap}
use mathlib.Core.Bool.{Bool, true, false}
use Prim.Native.Nat.{ℕ}
use Rattle.calendar.specs.declared.Instant.{Instant}
use Rattle.calendar.specs.Moments.{Moment}
use Rattle.layout.specs.Marks.{is}
use Rattle.layout.specs.declared.Call.{Call}
use Rattle.layout.specs.declared.Mark.{Mark}
use Rattle.layout.specs.declared.Mark.TheVariants.{AC, TE, SU, CO, TI, SL}
use Rattle.record.specs.Refusals.{named, unless}
use Rattle.record.specs.declared.refusals.Refusal.{Refusal}
use Rattle.record.specs.Numbers.{number, refused_with}
use Rattle.record.proofs.NumberLaws.{number_some}
use Rattle.lock.specs.Locks.{returnable}
use Rattle.lock.specs.declared.Locks.{Locks}
use Rattle.task.specs.declared.Task.{Task}
use Rattle.machine.specs.Running.{Running, someone}
use Rattle.machine.specs.declared.Sort.{Sort}
use Rattle.machine.specs.declared.Sort.TheVariants.{Declaration, OneTask, TheRunner, ListAsked, ListGiven, AnInterrupt, EveryTask}
use Rattle.machine.specs.Sorts.{sort_of, naming}
use Rattle.machine.specs.Refusals.{unreturnable, refusal_by}
use Rattle.machine.proofs.Sorts.{other_mark, given_waits}
use Rattle.kernel_refusals.specs.Inner.{named_refusal, time_refusal}
use Rattle.lists.specs.Lists.{every}

-- Time passes.
abbrev ticking : Sort → Bool
ticking Declaration = false
ticking OneTask = false
ticking TheRunner = false
ticking (ListAsked w b) = false
ticking (ListGiven w) = false
ticking AnInterrupt = false
ticking EveryTask = true

-- What is neither TI nor SL isn't refused for the time.
pub untimed : (m : Mark) (n : Instant) (e : Moment) → is m TI ≡ false → is m SL ≡ false → time_refusal m n e ≡ 0
unfolding time_refusal
untimed m n e a b = rw (a, b)

abbrev pub by_sort : Sort → Mark → Call → Running → Task → Locks → Instant → Moment → ℕ
by_sort Declaration m c r t l n e = 0
by_sort OneTask m c r t l n e = named_refusal m c.head t
by_sort TheRunner m c r t l n e = unless (someone r) 8 0
by_sort (ListAsked w b) m c r t l n e = unless (someone r) 8 0
by_sort (ListGiven w) m c r t l n e = unless (someone r) 8 (unless (every (returnable w l) (named c)) (unreturnable w) 0)
by_sort AnInterrupt m c r t l n e = 0
by_sort EveryTask m c r t l n e = time_refusal m n e

module _ (c : Call) (r : Running) (t : Task) (l : Locks) (n : Instant) (e : Moment) where
  pub refusal_by_law : (m : Mark) (s : Sort) → sort_of m ≡ s → by_sort s m c r t l n e ≡ refusal_by m c r t l n e
  unfolding refusal_by named_refusal time_refusal
  refusal_by_law m s q = go s q
    where
      unnamed : naming (sort_of m) ≡ false → (is m AC ≡ false) × (is m TE ≡ false) × (is m SU ≡ false) × (is m CO ≡ false)
      unnamed e = (other_mark naming m AC refl e, other_mark naming m TE refl e, other_mark naming m SU refl e, other_mark naming m CO refl e)

      unticked : ticking (sort_of m) ≡ false → time_refusal m n e ≡ 0
      unticked q = untimed m n e (other_mark ticking m TI refl q) (other_mark ticking m SL refl q)

      go : (s : Sort) → sort_of m ≡ s → by_sort s m c r t l n e ≡ refusal_by m c r t l n e
      go Declaration q = let u = unnamed (rw q) in rw (q, u.0, u.1, u.2, u.3, unticked (rw q))
      go OneTask q = rw (q, unticked (rw q))
      go TheRunner q = let u = unnamed (rw q) in rw (q, u.0, u.1, u.2, u.3, unticked (rw q))
      go (ListAsked w b) q = let u = unnamed (rw q) in rw (q, u.0, u.1, u.2, u.3, unticked (rw q))
      go (ListGiven w) q = let u = unnamed (rw q) in rw (q, u.0, u.1, u.2, u.3, unticked (rw q), given_waits m q)
      go AnInterrupt q = let u = unnamed (rw q) in rw (q, u.0, u.1, u.2, u.3, unticked (rw q))
      go EveryTask q = let u = unnamed (rw q) in rw (q, u.0, u.1, u.2, u.3)

-- ---- what a test gives

abbrev Outcome : Type 0
Outcome = Result Unit Refusal

abbrev tested : Bool → Refusal → Outcome
tested b x = cond b (Ok tt) (Err x)

pub told : (b : Bool) (x : Refusal) {r : Outcome} → r ≡ tested b x → refused_with r ≡ unless b (number x) 0
told true x e = ap refused_with e
told false x e = ap refused_with e

pub failed : (b : Bool) (x y : Refusal) → ◌≡◌ {A = Outcome} (Err y) (tested b x) → (n : ℕ) → number y ≡ unless b (number x) n
failed true x y e n = absurd (number_some y (ap refused_with e))
failed false x y e n = ap refused_with e

pub passed : (b : Bool) (x : Refusal) → ◌≡◌ {A = Outcome} (Ok tt) (tested b x) → b ≡ true
passed true x e = refl
passed false x e = absurd (number_some x (sym (ap refused_with e)))
