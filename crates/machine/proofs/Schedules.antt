-- An alarm and a schedule keep their limits when they come due, when their interrupt sets them off and when a call gives them.
use Rattle.std.specs.Prelude.{None, Some}
use mathlib.Core.Path.{◌≡◌, refl}
use mathlib.Core.Bool.{Bool, true, false, not, ◌&&◌, ◌||◌}
use Prim.Native.Nat.{ℕ, zero, suc, ◌+◌, ◌≤◌}
use native.Mathlib.Omega.{arith}
use lib.Dec.{ltb, leb, eqb}
use borrow.Author.Tests.{ltb-true, lt-ltb, leb-true, le-leb, eqb-true, eq-eqb, ne_eqb}
use Rattle.calendar.specs.Limits.{longest_duration, last_instant, most_instant, is_time_of_day, is_duration, is_period}
use Rattle.calendar.specs.Dues.{last_allowed, next_due}
use Rattle.calendar.specs.declared.Instant.{Instant}
use Rattle.calendar.specs.declared.End.{End}
use Rattle.calendar.specs.declared.End.TheVariants.{Open, Until, During}
use Rattle.calendar.specs.Moments.{Moment}
use Rattle.calendar.proofs.Bounds.{ShortStart, ShortEnd, Within, first_within, last_within, next_within, within_more}
use Rattle.record.specs.Refusals.{Used, on_interrupt, at_time, after_duration, start, or_zero, clean_start, ranged, end_timed, first_timed, start_timed, start_formed}
use Rattle.layout.specs.declared.Head.{Head}
use Rattle.facts.proofs.Bools.{by_bool, by_eq, contra, both, and_both, or_then, then_or, or_right}
use Rattle.schedule.specs.Alarms.{pending, listening, planned, coming_at, rearmed, set_off, start_of, alarm_of}
use Rattle.schedule.specs.Schedules.{with_alarm, advanced, advance, last_of, begin_with, triggered}
use Rattle.schedule.specs.declared.Alarm.{Alarm}
use Rattle.schedule.specs.declared.Schedule.{Schedule}
use Rattle.machine.specs.Test.{most_priority, is_priority, is_stored, end_ok, moment_ok, listener_ok, alarm_ok, last_ok, terms_ok, schedule_ok, continuation_ok}
use Rattle.machine.specs.Activation.{end_of, schedule_of}
use Rattle.machine.specs.Invariants.{IsDay}

short_end : (day : ℕ) (e : End) → end_ok day e ≡ true → ShortEnd e
short_end day Open h = tt
short_end day (Until t) h = tt
short_end day (During d) h = leb-true d.0 longest_duration (both (leb 1 d.0) _ h).1

moment_stored : (m : Moment) → Within most_instant m → moment_ok m ≡ true
moment_stored None h = refl
moment_stored (Some n) h = le-leb n.0 most_instant h

pub terms_parts : (day : ℕ) (s : Schedule) → terms_ok day s ≡ true → (is_priority s.priority ≡ true) × (s.period ≤ longest_duration) × (end_ok day s.end ≡ true)
terms_parts day s e =
    let a = both (is_priority s.priority && is_period s.period) (end_ok day s.end) e in
    let b = both (is_priority s.priority) (is_period s.period) a.0 in
    (b.0, leb-true _ _ b.1, a.1)

fourth : (a b c d e f : Bool) → (a && b && c && d && e && f) ≡ true → d ≡ true
fourth a b c d e f x = (both (a && b && c) d (both (a && b && c && d) e (both (a && b && c && d && e) f x).0).0).1

pub clean_first : (u : Used) (h : Head) → clean_start u h ≡ true → or_zero u.first h.first ≡ true
unfolding clean_start
clean_first u h e =
    fourth (or_zero u.kind h.kind) (or_zero u.interrupt h.interrupt) (or_zero u.endkind h.endkind) (or_zero u.first h.first) (or_zero u.period h.period) (or_zero u.endtime h.endtime) e

-- ---- alarms

-- An alarm that an interrupt or a call sets at a present instant.
pub record Soon (ni : ℕ) (a : Alarm) : Type 0 where
  pub heard : (not (listening a.plan) || listener_ok ni a) ≡ true
  pub near : pending a.plan ≡ true → a.next.0 ≤ last_instant + longest_duration

pub soon_ok : (ni : ℕ) (a : Alarm) → Soon ni a → alarm_ok ni a ≡ true
unfolding alarm_ok
soon_ok ni a h =
    and_both h.heard (then_or (pending a.plan) _ (λ q. let l = h.near q in le-leb a.next.0 most_instant (omega arith)))

module _ (ni : ℕ) (a : Alarm) (ok : alarm_ok ni a ≡ true) where
  heard : (not (listening a.plan) || listener_ok ni a) ≡ true
  unfolding alarm_ok
  heard = (both _ (not (pending a.plan) || is_stored a.next) ok).0

  listener : listening a.plan ≡ true → listener_ok ni a ≡ true
  listener = or_then (listening a.plan) _ heard

  pub set_off_soon : (n : Instant) → n.0 ≤ last_instant → listening a.plan ≡ true → Soon ni (set_off n a)
  set_off_soon n l q =
      let d = leb-true a.delay.0 longest_duration (both (ltb a.interrupt ni) _ (listener q)).1 in
      record { heard = listener q; near = λ z. omega arith }

  pub rearmed_ok : listening a.plan ≡ true → alarm_ok ni (rearmed a) ≡ true
  unfolding alarm_ok
  rearmed_ok q = and_both (listener q) refl

-- With more interrupts declared.
alarm_more : (n m : ℕ) (a : Alarm) → n ≤ m → alarm_ok n a ≡ true → alarm_ok m a ≡ true
unfolding alarm_ok
alarm_more n m a h e =
    and_both
    (then_or (listening a.plan) _
    (λ q.
    let b = both (ltb a.interrupt n) (leb a.delay.0 longest_duration) (listener n a e q) in
    let l = ltb-true a.interrupt n b.0 in
    and_both (lt-ltb a.interrupt m (omega arith)) b.1))
    (both (not (listening a.plan) || listener_ok n a) _ e).1

-- The first time of a start that isn't AT is a duration, or unused and so 0.
short_first : (day kind first : ℕ) → or_zero (at_time kind || after_duration kind) first ≡ true → first_timed day kind first ≡ true
    → at_time kind ≡ false → first ≤ longest_duration
unfolding first_timed
short_first day kind first u e q =
    by_bool (after_duration kind)
    (λ z. leb-true first longest_duration (both (leb 1 first) _ (or_then (after_duration kind) (is_duration first) (both (not (at_time kind) || is_time_of_day day first) _ e).1 z)).1)
    (λ z. let g : eqb first 0 ≡ true = rw (q, z) at u in omega (arith, eqb-true first 0 g))

when_not_at : (kind : ℕ) → on_interrupt kind ≡ true → at_time kind ≡ false
when_not_at kind e = by_eq kind 1 (λ q. contra (rw q at e) refl) (λ q. ne_eqb kind 1 q)

-- The alarm of a start that passed refusals 3, 5 and 6.
pub alarm_of_soon : (day ni : ℕ) → IsDay day → (clock : ℕ) (n : Instant) → n.0 ≤ last_instant → (kind first i : ℕ)
    → or_zero (at_time kind || after_duration kind) first ≡ true → first_timed day kind first ≡ true
    → (not (on_interrupt kind) || ltb i ni) ≡ true → Soon ni (alarm_of day clock n kind first i)
unfolding alarm_of
alarm_of_soon day ni is_day clock n l kind first i u e d =
    by_bool (on_interrupt kind)
    (λ q. rw q (record {
      heard = and_both (or_then (on_interrupt kind) _ d q) (le-leb first longest_duration (short_first day kind first u e (when_not_at kind q)));
      near = λ z. contra z refl;
    }))
    (λ q. rw q (record { heard = refl; near = λ z. let f = first_within day is_day.some is_day.room clock (start_of kind first) n short in omega arith }))
  where
    short : ShortStart (start_of kind first)
    short = by_bool (at_time kind) (λ q. rw q tt) (λ q. rw q (by_bool (after_duration kind) (λ z. rw z (short_first day kind first u e q)) (λ z. rw z tt)))

-- ---- schedules

module _ (day ni : ℕ) where
  abbrev pub Ok : Schedule → Type 0
  Ok s = schedule_ok day ni s ≡ true

  -- What the test says of a schedule that there is.
  record Parts (s : Schedule) : Type 0 where
    alarm : alarm_ok ni s.alarm ≡ true
    last : last_ok s ≡ true
    terms : terms_ok day s ≡ true

  to_parts : (s : Schedule) → planned s.alarm.plan ≡ true → Ok s → Parts s
  unfolding schedule_ok
  to_parts s q e =
      let a = both (alarm_ok ni s.alarm && last_ok s) (terms_ok day s) (or_then (planned s.alarm.plan) _ e q) in
      let b = both (alarm_ok ni s.alarm) (last_ok s) a.0 in
      record { alarm = b.0; last = b.1; terms = a.1 }

  of_parts : (s : Schedule) → Parts s → Ok s
  unfolding schedule_ok
  of_parts s p = then_or (planned s.alarm.plan) _ (λ q. and_both (and_both p.alarm p.last) p.terms)

  comes : (s : Schedule) → pending s.alarm.plan ≡ true → Ok s → Parts s
  comes s q = to_parts s (rw q)

  pub pending_terms : (s : Schedule) → pending s.alarm.plan ≡ true → Ok s → terms_ok day s ≡ true
  pending_terms s q e = (comes s q e).terms

  advanced_ok : (m : Moment) (s : Schedule) → Within most_instant m → Parts s → Ok (advanced m s)
  unfolding alarm_ok schedule_ok
  advanced_ok (Some x) s h p =
      of_parts (with_alarm (coming_at s.alarm.plan x s.alarm) s) (record {
        alarm = and_both (heard ni s.alarm p.alarm) (then_or (pending s.alarm.plan) _ (λ q. le-leb x.0 most_instant h));
        last = p.last;
        terms = p.terms;
      })
  advanced_ok None s h p =
      by_bool (listening s.alarm.plan)
      (λ q. rw q (of_parts (with_alarm (rearmed s.alarm) s) (record { alarm = rearmed_ok ni s.alarm p.alarm q; last = refl; terms = p.terms })))
      (λ q. rw q refl)

  pub advance_ok : (n : Instant) (s : Schedule) → n.0 ≤ last_instant → pending s.alarm.plan ≡ true → Ok s → Ok (advance n s)
  unfolding advance
  advance_ok n s l q e =
      let p = comes s q e in
      let t = terms_parts day s p.terms in
      advanced_ok (next_due s.period s.last n) s
      (within_more (n.0 + longest_duration) most_instant (next_due s.period s.last n) (omega arith) (next_within s.period s.last n t.1)) p

  module _ (is_day : IsDay day) (clock : ℕ) where
    begun_ok : (a : Alarm) (e : End) (period p : ℕ) → Soon ni a → terms_ok day (begin_with day clock a e period p) ≡ true → Ok (begin_with day clock a e period p)
    unfolding last_of
    begun_ok a e period p h t =
        of_parts _ (record {
          alarm = soon_ok ni a h;
          last =
              then_or (pending a.plan) _
              (λ q.
              let l = h.near q in
              let m = last_within day is_day.some is_day.room clock e a.next (short_end day e (terms_parts day (begin_with day clock a e period p) t).2) in
              rw q (moment_stored (last_allowed day e clock a.next) (within_more _ most_instant (last_allowed day e clock a.next) (omega arith) m)));
          terms = t;
        })

    module _ (n : Instant) (l : n.0 ≤ last_instant) where
      pub triggered_ok : (s : Schedule) → listening s.alarm.plan ≡ true → Ok s → Ok (triggered day clock n s)
      triggered_ok s q e =
          let p = to_parts s (or_right (pending s.alarm.plan) _ q) e in
          begun_ok (set_off n s.alarm) s.end s.period s.priority (set_off_soon ni s.alarm p.alarm n l q) p.terms

      -- ---- the schedule of an activation

      end_of_law : (e t : ℕ) → e ≤ 2 → end_timed day e t ≡ true → end_ok day (end_of e t) ≡ true
      unfolding end_timed
      end_of_law zero t h e = refl
      end_of_law (suc zero) t h e = (both (is_time_of_day day t) _ e).0
      end_of_law (suc (suc m)) t h e =
          or_then (eqb (suc (suc m)) 2) (is_duration t) (both (not (eqb (suc (suc m)) 1) || is_time_of_day day t) _ e).1 (eq-eqb (suc (suc m)) 2 (omega arith))

      pub schedule_of_ok : (h : Head) (p : ℕ) → is_priority p ≡ true → start_formed h ≡ true → start_timed day h ≡ true → (not (on_interrupt h.kind) || ltb h.interrupt ni) ≡ true → Ok (schedule_of day clock n h p)
      unfolding schedule_of start_timed ranged
      schedule_of_ok h p r f t i =
          let a = both _ (end_timed day h.endkind h.endtime) t in
          let b = both (first_timed day h.kind h.first && is_period h.period) _ a.0 in
          let c = both (first_timed day h.kind h.first) (is_period h.period) b.0 in
          let g = both (clean_start (start h.kind h.endkind) h) _ f in
          let m = both (leb h.kind 5) (leb h.endkind 2) g.1 in
          begun_ok (alarm_of day clock n h.kind h.first h.interrupt) (end_of h.endkind h.endtime) h.period p
          (alarm_of_soon day ni is_day clock n l h.kind h.first h.interrupt (clean_first (start h.kind h.endkind) h g.0) c.0 i)
          (and_both (and_both r c.1) (end_of_law h.endkind h.endtime (leb-true h.endkind 2 m.1) a.1))

pub schedule_more : (day n m : ℕ) (s : Schedule) → n ≤ m → Ok day n s → Ok day m s
schedule_more day n m s h e =
    by_bool (planned s.alarm.plan)
    (λ q. let p = to_parts day n s q e in of_parts day m s (record { alarm = alarm_more n m s.alarm h p.alarm; last = p.last; terms = p.terms }))
    (λ q. unfold schedule_ok in rw q)

-- ---- continuations

module _ (ni : ℕ) (a : Alarm) (p : ℕ) where
  -- What the test says of a continuation that there is.
  pub goes_parts : planned a.plan ≡ true → continuation_ok ni a p ≡ true → (alarm_ok ni a ≡ true) × (p ≤ most_priority)
  unfolding continuation_ok
  goes_parts q e =
      let b = both (alarm_ok ni a) (leb p most_priority) (or_then (planned a.plan) _ e q) in
      (b.0, leb-true p most_priority b.1)

  pub goes_of : alarm_ok ni a ≡ true → p ≤ most_priority → continuation_ok ni a p ≡ true
  unfolding continuation_ok
  goes_of e l = then_or (planned a.plan) _ (λ q. and_both e (le-leb p most_priority l))

pub continuation_more : (n m : ℕ) (a : Alarm) (p : ℕ) → n ≤ m → continuation_ok n a p ≡ true → continuation_ok m a p ≡ true
continuation_more n m a p h e =
    by_bool (planned a.plan)
    (λ q. let g = goes_parts n a p q e in goes_of m a p (alarm_more n m a h g.0) g.1)
    (λ q. unfold continuation_ok in rw q)
