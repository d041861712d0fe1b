-- The kernel test passes exactly what keeps the limits.
use Rattle.std.specs.Prelude.{is_some, None, Option, Some}
use mathlib.Core.Path.{◌≡◌, refl, sym, ap}
use mathlib.Core.Logic.{◌≢◌, ◌⊎◌, inl, inr, ⊎_elim}
use mathlib.Core.Bool.{Bool, true, false, not, ◌&&◌, ◌||◌}
use mathlib.Core.List.{List, [], ◌∷◌}
use Prim.Native.Nat.{ℕ, zero, suc, ◌≤◌, ◌<◌, ◌^◌}
use native.Mathlib.Omega.{arith}
use lib.Dec.{leb, ltb}
use lib.ListN.{length, get_or}
use borrow.Author.Tests.{leb-true, le-leb, ltb-true, lt-ltb, not-true, eq-eqb}
use Rattle.calendar.specs.Limits.{day_length, longest_duration, most_instant, last_instant, is_period}
use Rattle.calendar.specs.declared.Instant.{Instant}
use Rattle.calendar.specs.declared.Duration.{Duration}
use Rattle.calendar.specs.declared.End.{End}
use Rattle.calendar.specs.declared.End.TheVariants.{Open, Until, During}
use Rattle.calendar.specs.Moments.{Moment}
use Rattle.lists.specs.Lists.{names, distinct, every}
use Rattle.lists.proofs.EveryLaws.{names_same, names_head, names_tail, distinct_parts, every_at, every_from}
use Rattle.facts.proofs.Bools.{by_bool, by_eq, contra, both, and_both, not_of_false, or_then, then_or}
use Rattle.layout.specs.Fields.{most_numbers}
use Rattle.record.specs.Refusals.{most_value}
use Rattle.lock.specs.Locks.{waiting, value_at, bolt_at}
use Rattle.lock.specs.declared.Wait.{Wait}
use Rattle.lock.specs.declared.Wait.TheVariants.{Nothing, Request, Reserve, Enter}
use Rattle.schedule.specs.Alarms.{planned, pending, listening}
use Rattle.schedule.specs.declared.Plan.{Plan}
use Rattle.schedule.specs.declared.Plan.TheVariants.{Clock, Armed, Triggered}
use Rattle.schedule.specs.declared.Alarm.{Alarm}
use Rattle.schedule.specs.declared.Schedule.{Schedule}
use Rattle.task.specs.State.{rest_ok, wanted, unheld}
use Rattle.task.specs.declared.Hold.{Hold}
use Rattle.task.specs.declared.Hold.TheVariants.{Unheld, Suspended, Delayed}
use Rattle.task.specs.declared.Task.{Task}
use Rattle.machine.specs.declared.Counts.{Counts}
use Rattle.machine.specs.declared.State.{State}
use Rattle.machine.specs.State.{task_at, count_of}
use Rattle.machine.specs.Granting.{could_be_granted, servable}
use Rattle.machine.specs.Test.{most_priority, between, is_priority, is_stored, hold_ok, kept_ok, end_ok, moment_ok, listener_ok, alarm_ok, last_ok, terms_ok, schedule_ok, continuation_ok, valid}
use Rattle.machine.specs.Limits.{ListLimits, AlarmLimits, ScheduleLimits, ContinuationLimits, AtRest, TaskLimits, Limits, TestedIsWithin, WithinPasses, OutsideIsRefused}
use Rattle.machine.proofs.Below.{all_at, all_from}
use Rattle.machine.proofs.Places.{apart_of, places_test}
use Rattle.machine.proofs.Passed.{counts_fit, parts, of_parts}
use Rattle.machine.proofs.Facts.{Listed, TaskOk, task_test, task_untest, counts_test, nobody_test, nobody_untest}
use Rattle.machine.proofs.Refused.{untested_refused}

-- ---- numbers

priority_in : (p : ℕ) → is_priority p ≡ true → (1 ≤ p) × (p ≤ 255)
priority_in p e =
    let a = both (leb 1 p) (leb p most_priority) e in
    (leb-true 1 p a.0, omega (arith, leb-true p most_priority a.1))

priority_passes : (p : ℕ) → (1 ≤ p) × (p ≤ 255) → is_priority p ≡ true
priority_passes p l = and_both (le-leb 1 p l.0) (le-leb p most_priority (omega arith))

-- ---- lists

-- What a list has at a place it names,
named_at : (l : List ℕ) (a : ℕ) → a < length l → names l (get_or l a 0) ≡ true
named_at [] a h = absurd (omega arith)
named_at (x ∷ l) zero h = names_same x l
named_at (x ∷ l) (suc a) h = names_tail x (get_or l a 0) l (named_at l a (omega arith))

-- and what it names it has at a place.
place_of : (l : List ℕ) (x : ℕ) → names l x ≡ true → (a : ℕ) × (a < length l) × (get_or l a 0 ≡ x)
unfolding names
place_of [] x e = contra e refl
place_of (y ∷ l) x e =
    by_eq y x (λ q. (0, omega arith, q))
    (λ q. let z = place_of l x (rw (names_head y x l q) at e) in (suc z.0, omega (arith, z.1), z.2))

once_of : (l : List ℕ) → distinct l ≡ true → (a b : ℕ) → a < length l → b < length l → get_or l a 0 ≡ get_or l b 0 → a ≡ b
once_of [] e a b h m q = absurd (omega arith)
once_of (x ∷ l) e zero zero h m q = refl
once_of (x ∷ l) e zero (suc b) h m q = contra (rw (← q) at (named_at l b (omega arith))) (distinct_parts x l e).0
once_of (x ∷ l) e (suc a) zero h m q = contra (rw q at (named_at l a (omega arith))) (distinct_parts x l e).0
once_of (x ∷ l) e (suc a) (suc b) h m q = ap suc (once_of l (distinct_parts x l e).1 a b (omega arith) (omega arith) q)

distinct_of : (l : List ℕ) → ((a b : ℕ) → a < length l → b < length l → get_or l a 0 ≡ get_or l b 0 → a ≡ b) → distinct l ≡ true
unfolding distinct
distinct_of [] h = refl
distinct_of (x ∷ l) h =
    and_both
    (by_bool (names l x)
    (λ n. let z = place_of l x n in absurd (omega (arith, h 0 (suc z.0) (omega arith) (omega (arith, z.1)) (sym z.2))))
    (λ n. not_of_false _ n))
    (distinct_of l (λ a b m o q. omega (arith, h (suc a) (suc b) (omega arith) (omega arith) q)))

list_limits : (n : Counts) (w : Wait) (len : ℕ) (l : List ℕ) → Listed n w len l → ListLimits (count_of n w) len l
list_limits n w len l h =
    let s = both (leb 1 len) (leb len most_numbers) h.size in
    record {
      some = leb-true 1 len s.0;
      most = omega (arith, leb-true len most_numbers s.1);
      once = once_of l h.once;
      declared = λ a m. ltb-true _ _ (every_at (λ x. ltb x (count_of n w)) l (get_or l a 0) h.below (named_at l a m));
    }

list_passes : (n : Counts) (w : Wait) (len : ℕ) (l : List ℕ) → ListLimits (count_of n w) len l → Listed n w len l
list_passes n w len l h =
    record {
      size = and_both (le-leb 1 len h.some) (le-leb len most_numbers h.most);
      once = distinct_of l h.once;
      below =
          every_from (λ x. ltb x (count_of n w)) l
          (λ x m. let z = place_of l x m in lt-ltb x (count_of n w) (rw z.2 at (h.declared z.0 z.1)));
    }

-- ---- alarms

is_pending : (p : Plan) → (p ≡ Clock) ⊎ (p ≡ Triggered) → pending p ≡ true
is_pending p h = ⊎_elim (λ e. rw e) (λ e. rw e) h

pending_is : (p : Plan) → pending p ≡ true → (p ≡ Clock) ⊎ (p ≡ Triggered)
pending_is Plan.None e = contra e refl
pending_is Clock e = inl refl
pending_is Armed e = contra e refl
pending_is Triggered e = inr refl

is_listening : (p : Plan) → (p ≡ Armed) ⊎ (p ≡ Triggered) → listening p ≡ true
is_listening p h = ⊎_elim (λ e. rw e) (λ e. rw e) h

listening_is : (p : Plan) → listening p ≡ true → (p ≡ Armed) ⊎ (p ≡ Triggered)
listening_is Plan.None e = contra e refl
listening_is Clock e = contra e refl
listening_is Armed e = inl refl
listening_is Triggered e = inr refl

is_planned : (p : Plan) → p ≢ Plan.None → planned p ≡ true
is_planned Plan.None h = absurd (h refl)
is_planned Clock h = refl
is_planned Armed h = refl
is_planned Triggered h = refl

planned_is : (p : Plan) → planned p ≡ true → p ≢ Plan.None
planned_is p e q = contra e (rw q)

alarm_limits : (ni : ℕ) (a : Alarm) → alarm_ok ni a ≡ true → AlarmLimits ni a
unfolding alarm_ok
alarm_limits ni a e =
    let p = both (not (listening a.plan) || listener_ok ni a) (not (pending a.plan) || is_stored a.next) e in
    let w : (a.plan ≡ Armed) ⊎ (a.plan ≡ Triggered) → (ltb a.interrupt ni ≡ true) × (leb a.delay.0 longest_duration ≡ true) = λ h. both _ _ (or_then (listening a.plan) (listener_ok ni a) p.0 (is_listening a.plan h)) in
    record {
      next = λ h. omega (arith, leb-true a.next.0 most_instant (or_then (pending a.plan) _ p.1 (is_pending a.plan h)));
      interrupt = λ h. ltb-true a.interrupt ni (w h).0;
      delay = λ h. omega (arith, leb-true a.delay.0 longest_duration (w h).1);
    }

alarm_passes : (ni : ℕ) (a : Alarm) → AlarmLimits ni a → alarm_ok ni a ≡ true
unfolding alarm_ok
alarm_passes ni a h =
    and_both
    (then_or (listening a.plan) _
    (λ q. let w = listening_is a.plan q in
    and_both (lt-ltb a.interrupt ni (h.interrupt w)) (le-leb a.delay.0 longest_duration (omega (arith, h.delay w)))))
    (then_or (pending a.plan) _ (λ q. le-leb a.next.0 most_instant (omega (arith, h.next (pending_is a.plan q)))))

-- ---- schedules and continuations

until_in : (e : End) → end_ok day_length e ≡ true → (t : ℕ) → e ≡ Until t → t ≤ 86399999
until_in e h t q = let z : end_ok day_length (Until t) ≡ true = rw q at h in omega (arith, ltb-true t day_length z)

during_in : (e : End) → end_ok day_length e ≡ true → (d : Duration) → e ≡ During d → (1 ≤ d.0) × (d.0 ≤ 1000000000)
during_in e h d q =
    let z : end_ok day_length (During d) ≡ true = rw q at h in
    let a = both (leb 1 d.0) (leb d.0 longest_duration) z in
    (leb-true 1 d.0 a.0, omega (arith, leb-true d.0 longest_duration a.1))

end_passes : (e : End) → ((t : ℕ) → e ≡ Until t → t ≤ 86399999) → ((d : Duration) → e ≡ During d → (1 ≤ d.0) × (d.0 ≤ 1000000000)) → end_ok day_length e ≡ true
end_passes Open f g = refl
end_passes (Until t) f g = lt-ltb t day_length (omega (arith, f t refl))
end_passes (During d) f g = let l = g d refl in and_both (le-leb 1 d.0 l.0) (le-leb d.0 longest_duration (omega arith))

last_in : (m : Moment) → moment_ok m ≡ true → (n : Instant) → m ≡ Some n → n.0 ≤ 2 ^ 42
last_in m h n q = let z : moment_ok (Some n) ≡ true = rw q at h in omega (arith, leb-true n.0 most_instant z)

last_passes : (m : Moment) → ((n : Instant) → m ≡ Some n → n.0 ≤ 2 ^ 42) → moment_ok m ≡ true
last_passes None f = refl
last_passes (Some n) f = le-leb n.0 most_instant (omega (arith, f n refl))

schedule_limits : (ni : ℕ) (s : Schedule) → schedule_ok day_length ni s ≡ true → s.alarm.plan ≢ Plan.None → ScheduleLimits ni s
unfolding schedule_ok
schedule_limits ni s e h =
    let a = both (alarm_ok ni s.alarm && last_ok s) (terms_ok day_length s) (or_then (planned s.alarm.plan) _ e (is_planned s.alarm.plan h)) in
    let b = both (alarm_ok ni s.alarm) (last_ok s) a.0 in
    let c = both (is_priority s.priority && is_period s.period) (end_ok day_length s.end) a.1 in
    let d = both (is_priority s.priority) (is_period s.period) c.0 in
    record {
      alarm = alarm_limits ni s.alarm b.0;
      priority = priority_in s.priority d.0;
      period = omega (arith, leb-true s.period longest_duration d.1);
      until = until_in s.end c.1;
      during = during_in s.end c.1;
      last = λ n q w. last_in s.last (or_then (pending s.alarm.plan) _ b.1 (is_pending s.alarm.plan w)) n q;
    }

schedule_passes : (ni : ℕ) (s : Schedule) → (s.alarm.plan ≢ Plan.None → ScheduleLimits ni s) → schedule_ok day_length ni s ≡ true
unfolding schedule_ok
schedule_passes ni s f =
    then_or (planned s.alarm.plan) _
    (λ q.
    let h = f (planned_is s.alarm.plan q) in
    and_both
    (and_both (alarm_passes ni s.alarm h.alarm)
    (then_or (pending s.alarm.plan) _ (λ w. last_passes s.last (λ n z. h.last n z (pending_is s.alarm.plan w)))))
    (and_both (and_both (priority_passes s.priority h.priority) (le-leb s.period longest_duration (omega (arith, h.period))))
    (end_passes s.end h.until h.during)))

continuation_limits : (ni : ℕ) (a : Alarm) (p : ℕ) → continuation_ok ni a p ≡ true → a.plan ≢ Plan.None → ContinuationLimits ni a p
unfolding continuation_ok
continuation_limits ni a p e h =
    let b = both (alarm_ok ni a) (leb p most_priority) (or_then (planned a.plan) _ e (is_planned a.plan h)) in
    record { alarm = alarm_limits ni a b.0; priority = omega (arith, leb-true p most_priority b.1) }

continuation_passes : (ni : ℕ) (a : Alarm) (p : ℕ) → (a.plan ≢ Plan.None → ContinuationLimits ni a p) → continuation_ok ni a p ≡ true
unfolding continuation_ok
continuation_passes ni a p f =
    then_or (planned a.plan) _
    (λ q. let h = f (planned_is a.plan q) in and_both (alarm_passes ni a h.alarm) (le-leb p most_priority (omega (arith, h.priority))))

-- ---- one task

waits_nothing : (w : Wait) → waiting w ≡ false → w ≡ Nothing
waits_nothing Nothing e = refl
waits_nothing Request e = contra refl e
waits_nothing Reserve e = contra refl e
waits_nothing Enter e = contra refl e

is_waiting : (w : Wait) → w ≢ Nothing → waiting w ≡ true
is_waiting w h = by_bool (waiting w) (λ e. e) (λ e. absurd (h (waits_nothing w e)))

is_unheld : (h : Hold) → unheld h ≡ true → h ≡ Unheld
is_unheld Unheld e = refl
is_unheld Suspended e = contra e refl
is_unheld (Delayed n) e = contra e refl

is_empty : (q : Option ℕ) → is_some q ≡ false → q ≡ None
is_empty None e = refl
is_empty (Some p) e = contra refl e

rests : (t : Task) → rest_ok t ≡ true → t.alive ≡ false → AtRest t
rests t e d =
    let z : (not (is_some t.kept) && not (waiting t.wait) && unheld t.hold) ≡ true = rw d at e in
    let a = both (not (is_some t.kept) && not (waiting t.wait)) (unheld t.hold) z in
    let b = both (not (is_some t.kept)) (not (waiting t.wait)) a.0 in
    record { wait = waits_nothing t.wait (not-true _ b.1); hold = is_unheld t.hold a.1; kept = is_empty t.kept (not-true _ b.0) }

rest_passes : (t : Task) → (t.alive ≡ false → AtRest t) → rest_ok t ≡ true
rest_passes t f = by_bool t.alive (λ e. rw e) (λ e. let h = f e in rw (e, h.wait, h.hold, h.kept))

kept_in : (q : Option ℕ) → kept_ok q ≡ true → (p : ℕ) → q ≡ Some p → (1 ≤ p) × (p ≤ 255)
kept_in q h p e = let z : kept_ok (Some p) ≡ true = rw e at h in priority_in p z

kept_passes : (q : Option ℕ) → ((p : ℕ) → q ≡ Some p → (1 ≤ p) × (p ≤ 255)) → kept_ok q ≡ true
kept_passes None f = refl
kept_passes (Some p) f = priority_passes p (f p refl)

delayed_in : (q : Hold) → hold_ok q ≡ true → (m : Instant) → q ≡ Delayed m → m.0 ≤ 2 ^ 42
delayed_in q h m e = let z : hold_ok (Delayed m) ≡ true = rw e at h in omega (arith, leb-true m.0 most_instant z)

delayed_passes : (q : Hold) → ((m : Instant) → q ≡ Delayed m → m.0 ≤ 2 ^ 42) → hold_ok q ≡ true
delayed_passes Unheld f = refl
delayed_passes Suspended f = refl
delayed_passes (Delayed m) f = le-leb m.0 most_instant (omega (arith, f m refl))

task_limits : (n : Counts) (t : Task) → TaskOk day_length n t → TaskLimits n t
task_limits n t h =
    let list : (w : Wait) → t.wait ≡ w → waiting w ≡ true → ListLimits (count_of n w) t.len (wanted t) = λ w e q. rw e at (list_limits n t.wait t.len (wanted t) (h.listed (rw e q))) in
    record {
      declared = priority_in t.declared h.declared_ok;
      current = priority_in t.current h.current_ok;
      terminated = rests t h.rests;
      request = λ e. list Request e refl;
      reserve = λ e. list Reserve e refl;
      enter = λ e. list Enter e refl;
      delayed = delayed_in t.hold h.hold_ok_law;
      kept = kept_in t.kept h.kept_ok_law;
      schedule = schedule_limits n.interrupts t.schedule h.schedule_ok_law;
      continuation = continuation_limits n.interrupts t.continuation t.given h.continuation_ok_law;
    }

listed_by : (n : Counts) (w : Wait) (len : ℕ) (l : List ℕ) → (w ≡ Request → ListLimits n.semaphores len l)
    → (w ≡ Reserve → ListLimits n.bolts len l) → (w ≡ Enter → ListLimits n.bolts len l) → waiting w ≡ true → Listed n w len l
listed_by n Nothing len l f g h e = contra e refl
listed_by n Request len l f g h e = list_passes n Request len l (f refl)
listed_by n Reserve len l f g h e = list_passes n Reserve len l (g refl)
listed_by n Enter len l f g h e = list_passes n Enter len l (h refl)

task_passes : (n : Counts) (t : Task) → TaskLimits n t → TaskOk day_length n t
task_passes n t h =
    record {
      declared_ok = priority_passes t.declared h.declared;
      current_ok = priority_passes t.current h.current;
      kept_ok_law = kept_passes t.kept h.kept;
      hold_ok_law = delayed_passes t.hold h.delayed;
      rests = rest_passes t h.terminated;
      listed = listed_by n t.wait t.len (wanted t) h.request h.reserve h.enter;
      schedule_ok_law = schedule_passes n.interrupts t.schedule h.schedule;
      continuation_ok_law = continuation_passes n.interrupts t.continuation t.given h.continuation;
    }

-- ---- the kernel

pub tested_is_within : TestedIsWithin
tested_is_within k e =
    let n = k.counts in
    let p = parts day_length k e in
    let c = counts_fit n p.counts in
    let q = apart_of n.tasks k.places p.places in
    record {
      tasks = omega (arith, c.tasks);
      semaphores = omega (arith, c.semaphores);
      bolts = omega (arith, c.bolts);
      interrupts = omega (arith, c.interrupts);
      now = omega (arith, leb-true k.now.0 last_instant p.now);
      clock = omega (arith, ltb-true k.clock day_length p.clock);
      each = λ i l. task_limits n (task_at k.tasks i) (task_untest day_length n (task_at k.tasks i) (all_at n.tasks _ p.tasks i l));
      values = λ s l. omega (arith, leb-true (value_at k.locks s) most_value (all_at n.semaphores (λ (s : ℕ). leb (value_at k.locks s) most_value) p.values s l));
      readers = λ b l. omega (arith, leb-true (bolt_at k.locks b).readers most_value (all_at n.bolts (λ (b : ℕ). leb (bolt_at k.locks b).readers most_value) p.readers b l));
      places = q.range;
      apart = q.apart;
      stuck = λ i l w. rw (is_waiting (task_at k.tasks i).wait w) at (nobody_untest k p.stuck i l);
    }

pub within_passes : WithinPasses
within_passes k h =
    let n = k.counts in
    of_parts day_length k
    (record {
      now = le-leb k.now.0 last_instant (omega (arith, h.now));
      clock = lt-ltb k.clock day_length (omega (arith, h.clock));
      counts = counts_test n (record { tasks = h.tasks; semaphores = h.semaphores; bolts = h.bolts; interrupts = h.interrupts });
      values = all_from n.semaphores _ (λ s l. le-leb _ most_value (h.values s l));
      readers = all_from n.bolts _ (λ b l. le-leb _ most_value (h.readers b l));
      tasks = all_from n.tasks _ (λ i l. task_test day_length n (task_at k.tasks i) (task_passes n (task_at k.tasks i) (h.each i l)));
      places = places_test n.tasks k.places (record { range = h.places; apart = h.apart });
      stuck =
          nobody_test k
          (λ i l.
          let t = task_at k.tasks i in
          by_bool (waiting t.wait) (λ e. rw e (h.stuck i l (λ q. contra e (rw q)))) (λ e. rw e));
    })

pub outside_is_refused : OutsideIsRefused
outside_is_refused k s h =
    by_bool (valid day_length k) (λ e. absurd (h (tested_is_within k e))) (λ e. untested_refused day_length k s e)
