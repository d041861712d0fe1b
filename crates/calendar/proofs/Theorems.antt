-- The promises of specs/Promises.antt.
use Rattle.std.specs.Prelude.{None, Some}
use mathlib.Core.Path.{◌≡◌, refl, sym, ap, ◌∙◌}
use mathlib.Core.Bool.{Bool, true, false, ◌&&◌, cond, and-eq-true_iff}
use Prim.Native.Nat.{ℕ, ◌+◌, ◌-◌, ◌/◌, ◌%◌, ◌≤◌, ◌<◌}
use native.Mathlib.Nat.{add_assoc, mod-lt, mod-eq_of_lt, mod-add-mod, add-mod-mod, add-mod_right, div-add-mod', mul-le-mul_right}
use native.Mathlib.Decide.{dec_lt}
use native.Mathlib.Omega.{arith}
use borrow.Author.Tests.{ltb-true, leb-true, le-leb, lt-leb}
use lib.Dec.{leb, ltb}
use Rattle.calendar.specs.declared.Instant.{Instant}
use Rattle.calendar.specs.declared.Start.{Start}
use Rattle.calendar.specs.declared.Start.TheVariants.{Now, AtTime, After}
use Rattle.calendar.specs.declared.End.TheVariants.{Open, Until, During}
use Rattle.calendar.specs.Limits.{day_length, longest_duration, most_instant, is_duration}
use Rattle.calendar.specs.Times.{duration, plus, time_of_day, until}
use Rattle.calendar.specs.Dues.{first_due, last_allowed, allowed, next_due}
use Rattle.calendar.specs.Promises.{UntilIsNext, AtIsNext, EndIsNext, PresentIsNow, FirstNotBefore, NowIsNow, AfterIsLater, FirstIsAllowed, NextIsLater, LastBelongs, start_fits, end_fits, is_stored, FirstIsStored, LastIsStored, NextIsStored}

-- Of two numbers with the same rest mod m, one is not above the other by less than m.
same_rest : (x y m : ℕ) → x % m ≡ y % m → x < y + m → x ≤ y
same_rest x y m e h = go (dec_lt (y / m) (x / m))
  where
    go : Dec (y / m < x / m) → x ≤ y
    go (yes q) = omega (arith, mul-le-mul_right m q, div-add-mod' x m, div-add-mod' y m)
    go (no q) =
        let le : x / m ≤ y / m = omega arith in
        omega (arith, mul-le-mul_right m le, div-add-mod' x m, div-add-mod' y m)

-- What leads from the rest of x to the rest t.
to_rest : (x t m : ℕ) → t < m → (x + (t + (m - x % m)) % m) % m ≡ t
to_rest x t m h =
    let less : x % m < m = mod-lt x (omega arith) in
    let sum : x % m + (t + (m - x % m)) ≡ t + m = omega arith in
    add-mod-mod _ _ _ ∙ sym (mod-add-mod x m _) ∙ ap (◌% m) sum ∙ add-mod_right t m ∙ mod-eq_of_lt h

pub until_is_next : UntilIsNext
unfolding until time_of_day
until_is_next day clock t n h =
    let w : ℕ = (until day clock n t).0 in
    let less : w < day = mod-lt _ (omega arith) in
    let time : (clock + (n.0 + w)) % day ≡ t = ap (◌% day) (sym (add_assoc clock n.0 w)) ∙ to_rest (clock + n.0) t day h in
    record {
      not_before = omega arith;
      within_a_day = omega arith;
      time_is = time;
      none_between = λ k a e. omega (arith, same_rest (clock + (n.0 + w)) (clock + k.0) day (time ∙ sym e) (omega arith));
    }

pub at_is_next : AtIsNext
unfolding first_due
at_is_next = until_is_next

pub end_is_next : EndIsNext
unfolding last_allowed
end_is_next day clock t f h = (plus f (until day clock f t), refl, until_is_next day clock t f h)

pub present_is_now : PresentIsNow
unfolding time_of_day
present_is_now day clock n h =
    let next = until_is_next day clock (time_of_day day clock n) n (mod-lt _ h) in
    ap duration (omega (arith, next.none_between n (omega arith) refl))

pub first_not_before : FirstNotBefore
unfolding first_due
first_not_before day clock Now n = omega arith
first_not_before day clock (AtTime t) n = omega arith
first_not_before day clock (After d) n = omega arith

-- What the test of a duration says.
in_range : (d : ℕ) → is_duration d ≡ true → (1 ≤ d) × (d ≤ longest_duration)
in_range d e =
    let (low, high) = (and-eq-true_iff (leb 1 d) (leb d longest_duration)).0 e in
    (leb-true 1 d low, leb-true d longest_duration high)

pub now_is_now : NowIsNow
unfolding first_due
now_is_now day clock n = refl

pub after_is_later : AfterIsLater
unfolding first_due
after_is_later day clock d n e = omega (arith, in_range d.0 e)

pub last_belongs : LastBelongs
unfolding allowed
last_belongs l n = (le-leb n.0 l.0, lt-leb n.0 l.0)

pub first_is_allowed : FirstIsAllowed
unfolding last_allowed allowed
first_is_allowed day clock Open f = refl
first_is_allowed day clock (Until t) f = (last_belongs (plus f (until day clock f t)) f).0 (omega arith)
first_is_allowed day clock (During d) f = (last_belongs (plus f d) f).0 (omega arith)

-- A choice of an instant says that the test held, and which instant it was.
chosen : (b : Bool) (x m : Instant) → cond b (Some x) None ≡ Some m → (b ≡ true) × (x ≡ m)
chosen true x m e = (refl, cc)
chosen false x m e = (cc, cc)

pub next_is_later : NextIsLater
unfolding next_due
next_is_later period last n m e =
    let next : Instant = plus n (duration period) in
    let (test, same) = chosen (ltb 0 period && allowed last next) next m e in
    let (repeats, fits) = (and-eq-true_iff (ltb 0 period) (allowed last next)).0 test in
    rw (← same) (omega (arith, ltb-true 0 period repeats), refl, fits)

-- A first due adds at most the longest duration.
first_most :
    (clock : ℕ) (s : Start) (n : Instant) →
    start_fits s ≡ true → (first_due day_length s clock n).0 ≤ n.0 + longest_duration
unfolding start_fits first_due until
first_most clock Now n e = omega arith
first_most clock (AtTime t) n e = omega arith
first_most clock (After d) n e = omega (arith, in_range d.0 e)

stored : (n : Instant) → n.0 ≤ most_instant → is_stored (Some n) ≡ true
unfolding is_stored
stored n = le-leb n.0 most_instant

pub first_is_stored : FirstIsStored
first_is_stored clock s n h e = stored (first_due day_length s clock n) (omega (arith, first_most clock s n e))

pub last_is_stored : LastIsStored
unfolding is_stored last_allowed end_fits until
last_is_stored clock s Open n h e g = refl
last_is_stored clock s (Until t) n h e g =
    let f : Instant = first_due day_length s clock n in
    stored (plus f (until day_length clock f t)) (omega (arith, first_most clock s n e))
last_is_stored clock s (During d) n h e g =
    stored (plus (first_due day_length s clock n) d) (omega (arith, first_most clock s n e, in_range d.0 g))

pub next_is_stored : NextIsStored
unfolding is_stored next_due
next_is_stored period last n h e = go (ltb 0 period && allowed last (plus n (duration period)))
  where
    go : (b : Bool) → is_stored (cond b (Some (plus n (duration period))) None) ≡ true
    go true = stored (plus n (duration period)) (omega (arith, leb-true period longest_duration e))
    go false = refl
