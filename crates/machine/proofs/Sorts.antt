-- What the sort of a mark tells of it.
use mathlib.Core.Path.{◌≡◌, refl, sym, ap, ◌∙◌}
use mathlib.Core.Bool.{Bool, true, false, not, ◌&&◌, ◌||◌, or-false}
use mathlib.Core.List.{List, [], ◌∷◌}
use Prim.Native.Nat.{ℕ}
use lib.Dec.{leb}
use lib.ListN.{take, drop}
use borrow.Author.Tests.{eqb-true}
use Rattle.layout.specs.Marks.{is, form}
use Rattle.layout.specs.declared.Mark.{Mark}
use Rattle.layout.specs.declared.Call.{Call}
use Rattle.layout.specs.declared.Head.{Head}
use Rattle.layout.specs.declared.Form.{Form}
use Rattle.layout.specs.declared.Form.TheVariants.{Bare, Number, Continuation, DeclaredPriority, Preset, TimeOfDay, Resumption, Activation, Numbers, OneNumber}
use Rattle.layout.proofs.MarksLaws.{is_mark, all_marks, every_mark}
use Rattle.lists.specs.Lists.{all_zero, names, distinct}
use Rattle.record.specs.Refusals.{uses, or_zero, clean_names, clean_start, ranged, formed_as, named, listed}
use Rattle.layout.specs.declared.Mark.TheVariants.{AC, TE, SU, PR, CO, EN, RE, TG, EI, XI, TI, SL}
use Rattle.lock.specs.Locks.{waiting}
use Rattle.lock.specs.declared.Wait.{Wait}
use Rattle.facts.proofs.Bools.{by_bool, contra, both, and_both}
use Rattle.machine.specs.declared.Sort.{Sort}
use Rattle.machine.specs.declared.Sort.TheVariants.{Declaration, OneTask, TheRunner, ListAsked, ListGiven, AnInterrupt, EveryTask}
use Rattle.machine.specs.Sorts.{sort_of}
use Rattle.layout.specs.Fields.{most_numbers}

-- The call has a list.
abbrev pub listing : Sort → Bool
listing Declaration = false
listing OneTask = false
listing TheRunner = false
listing (ListAsked w b) = true
listing (ListGiven w) = true
listing AnInterrupt = false
listing EveryTask = false

-- A mark is none of those whose sort differs in p.
pub other_mark : (p : Sort → Bool) (m n : Mark) → p (sort_of n) ≡ true → p (sort_of m) ≡ false → is m n ≡ false
other_mark p m n a b =
    by_bool (is m n) (λ e. contra (ap (λ (x : Mark). p (sort_of x)) (is_mark m n e) ∙ a) b) (λ e. e)

-- The kinds of lists are kinds of waits, five marks name a task, EN and RE are about the running one, three name an interrupt,
-- and TI and SL are about every task.
kind_ok : Sort → Mark → Bool
kind_ok Declaration m = true
kind_ok OneTask m = is m AC || is m TE || is m SU || is m PR || is m CO
kind_ok TheRunner m = is m EN || is m RE
kind_ok (ListAsked w b) m = waiting w
kind_ok (ListGiven w) m = waiting w
kind_ok AnInterrupt m = is m TG || is m EI || is m XI
kind_ok EveryTask m = is m TI || is m SL

kind_ok_law : (m : Mark) (s : Sort) → sort_of m ≡ s → kind_ok s m ≡ true
unfolding kind_ok all_marks
kind_ok_law m s q = ap (λ (x : Sort). kind_ok x m) (sym q) ∙ every_mark (λ x. kind_ok (sort_of x) x) refl refl m

pub asked_waits : (m : Mark) {w : Wait} {b : Bool} → sort_of m ≡ ListAsked w b → waiting w ≡ true
unfolding kind_ok
asked_waits m {w} {b} q = kind_ok_law m (ListAsked w b) q

pub given_waits : (m : Mark) {w : Wait} → sort_of m ≡ ListGiven w → waiting w ≡ true
unfolding kind_ok
given_waits m {w} q = kind_ok_law m (ListGiven w) q

pub continue_mark : (m : Mark) → sort_of m ≡ OneTask → is m AC ≡ false → is m TE ≡ false → is m SU ≡ false → is m PR ≡ false → is m CO ≡ true
unfolding kind_ok
continue_mark m q a b c d = rw (a, b, c, d) at (kind_ok_law m OneTask q)

pub end_mark : (m : Mark) → sort_of m ≡ TheRunner → is m RE ≡ false → is m EN ≡ true
unfolding kind_ok
end_mark m q a = rw (a, or-false) at (kind_ok_law m TheRunner q)

pub interrupt_mark : (m : Mark) → sort_of m ≡ AnInterrupt → (is m TG || is m EI || is m XI) ≡ true
unfolding kind_ok
interrupt_mark m q = kind_ok_law m AnInterrupt q

pub tick_mark : (m : Mark) → sort_of m ≡ EveryTask → (is m TI || is m SL) ≡ true
unfolding kind_ok
tick_mark m q = kind_ok_law m EveryTask q

-- ---- lists

same : Bool → Bool → Bool
same true b = b
same false b = not b

same_is : (a b : Bool) → same a b ≡ true → a ≡ b
unfolding same
same_is true true e = refl
same_is true false e = contra e refl
same_is false true e = contra e refl
same_is false false e = refl

-- A mark has a list exactly where its form has one.
pub list_mark : (m : Mark) (h : Head) → listing (sort_of m) ≡ (uses (form m) h).list
unfolding same uses all_marks
list_mark m h = same_is _ _ (every_mark (λ x. same (listing (sort_of x)) (uses (form x) h).list) refl refl m)

distinct_one : (l : List ℕ) → distinct (take 1 l) ≡ true
unfolding distinct names
distinct_one [] = refl
distinct_one (x ∷ l) = refl

-- Its length and numbers, once refusals 3 and 4 are passed.
abbrev pub InShape : Call → Type 0
InShape c = ((leb 1 c.head.len && leb c.head.len most_numbers) ≡ true) × (distinct (named c) ≡ true)

pub list_shape : (f : Form) (c : Call) → (uses f c.head).list ≡ true → formed_as f c ≡ true → listed f c ≡ true → InShape c
unfolding uses ranged listed
list_shape Bare c u f l = contra u refl
list_shape Number c u f l = contra u refl
list_shape Continuation c u f l = contra u refl
list_shape DeclaredPriority c u f l = contra u refl
list_shape Preset c u f l = contra u refl
list_shape TimeOfDay c u f l = contra u refl
list_shape Resumption c u f l = contra u refl
list_shape Activation c u f l = contra u refl
list_shape Numbers c u f l =
    let a = (both (clean_names (uses Numbers c.head) c) (clean_start (uses Numbers c.head) c.head && ranged Numbers c.head) f).1 in
    let b = (both (clean_start (uses Numbers c.head) c.head) (leb c.head.len most_numbers) a).1 in
    let e = both (leb 1 c.head.len) (distinct (named c)) l in
    (and_both e.0 b, e.1)
list_shape OneNumber c u f l = let e = eqb-true c.head.len 1 l in (rw e, rw e (distinct_one c.list))

-- A form without a list has length 0.
pub no_list_law : (f : Form) (c : Call) → (uses f c.head).list ≡ false → formed_as f c ≡ true → c.head.len ≡ 0
unfolding clean_names
no_list_law f c n g =
    let u = uses f c.head in
    let others = or_zero u.number c.head.number && or_zero u.priority c.head.priority in
    let a = (both (clean_names u c) (clean_start u c.head && ranged f c.head) g).0 in
    let b = (both (others && or_zero u.list c.head.len) (all_zero (drop c.head.len c.list)) a).0 in
    eqb-true c.head.len 0 (sym (ap (λ x. or_zero x c.head.len) n) ∙ (both others (or_zero u.list c.head.len) b).1)
