-- A sleep counts as its ticks: for each record, then by induction over the list.
use Rattle.std.specs.Prelude.{Err, None, Ok, Some}
use mathlib.Core.Path.{◌≡◌, refl, sym, ap, ◌∙◌}
use mathlib.Core.Bool.{true, false, ◌&&◌}
use mathlib.Core.List.{List, [], ◌∷◌, ◌++◌, append_assoc}
use Prim.Native.Nat.{ℕ, zero, suc, ◌+◌, ◌-◌, ◌≤◌}
use native.Mathlib.Omega.{arith}
use lib.Dec.{ltb}
use borrow.Author.Tests.{leb-true, ltb-true, ne_eqb}
use Rattle.calendar.specs.Limits.{last_instant}
use Rattle.calendar.specs.Moments.{comes_by, instant_or, Moment}
use Rattle.calendar.specs.declared.Instant.{Instant}
use Rattle.layout.specs.Marks.{among, is}
use Rattle.layout.specs.Fields.{Octets, head_of, bytes_of}
use Rattle.layout.specs.declared.Call.{Call}
use Rattle.layout.specs.declared.Head.{Head}
use Rattle.layout.specs.declared.Mark.TheVariants.{SL}
use Rattle.layout.proofs.MarksLaws.{is_mark}
use Rattle.record.specs.Reading.{call_with, opened, Read}
use Rattle.lists.specs.Lists.{every}
use Rattle.lock.specs.declared.Wait.{Wait}
use Rattle.lock.specs.declared.Wait.TheVariants.{Nothing}
use Rattle.facts.proofs.Bools.{tests, by_bool, contra, both}
use Rattle.machine.specs.declared.State.{State}
use Rattle.machine.specs.declared.Answer.{Answer}
use Rattle.machine.specs.Running.{Running, runner}
use Rattle.machine.specs.declared.Stepped.{Stepped}
use Rattle.machine.specs.Sets.{Set}
use Rattle.machine.specs.NextEvent.{next_event}
use Rattle.machine.specs.Sorts.{declares}
use Rattle.machine.specs.Refusals.{state_refusal}
use Rattle.machine.specs.Calls.{arrival, work_by}
use Rattle.machine.specs.Step.{answered, or_refuse, carry_out, step}
use Rattle.machine.specs.Log.{AllOctets, is_declaration, Entry, final, log}
use Rattle.machine.specs.Invariants.{IsDay, Passes}
use Rattle.machine.specs.Scripts.{row, one_tick, sleep}
use Rattle.machine.specs.Quiet.{QuietTicks, quiet_tick}
use Rattle.machine.proofs.Rows.{row_split, log_append, final_append}
use Rattle.machine.proofs.SetLaws.{no_members, has_empty}
use Rattle.machine.proofs.Filing.{taken_next}
use Rattle.machine.proofs.Passed.{refusal_of, unrefused, passed, as_mark}
use Rattle.machine.proofs.Cases.{carried_by, step_opened, step_on}
use Rattle.machine.proofs.Invariants.{step_passes}
use Rattle.machine.proofs.Sleeping.{sleep_step, sleep_is_ticks}
use Rattle.balance.specs.Counting.{Asking, count, is_accepted, asks, gives, names_of, returned, asked_after, grants_in, grants}
use Rattle.balance.specs.Fresh.{accepted_declaration, without}
use Rattle.balance.specs.InTicks.{is_sleep, ticks_to_next, sleeps, as_ticks, in_ticks, entries_of, entries_in_ticks, SleepsCountAsTicks, BalanceInTicks}
use Rattle.balance.proofs.Grants.{no_grants, no_kind}
use Rattle.balance.proofs.Balanced.{balance}

abbrev entry : List ℕ → Answer → Entry
entry r a = record { bytes = r; answer = a }

-- ---- a record that names no list and declares nothing

record Listless (r : List ℕ) : Type 0 where
  asks_none : (names_of asks r).kind ≡ Nothing
  gives_none : (names_of gives r).kind ≡ Nothing
  undeclaring : is_declaration (opened r).answer ≡ false

tick_listless : Listless one_tick
unfolding names_of asks gives opened among head_of bytes_of declares
tick_listless = record { asks_none = refl; gives_none = refl; undeclaring = refl }

sleep_listless : (r : List ℕ) (h : Head) → (opened r).answer ≡ Ok h → h.mark ≡ SL → Listless r
unfolding names_of asks gives declares
sleep_listless r h e m = record { asks_none = rw (e, m); gives_none = rw (e, m); undeclaring = rw (e, m) }

-- ---- an accepted SL

module _ (day : ℕ) (k : State) (p : Passes day k) where
  module _ (c : Call) (m : c.head.mark ≡ SL) (e : refusal_of day k c ≡ 0) where
    unrefused_sleep : state_refusal SL k c ≡ 0
    unrefused_sleep = (as_mark {m = SL} m (passed day k c e)).state

    sleep_wakes : comes_by last_instant (next_event k) ≡ true
    sleep_wakes = (unrefused SL c _ _ _ _ (next_event k) unrefused_sleep).wakes

    sleep_same : carry_out day k c ≡ step day k sleep
    unfolding carry_out declares work_by arrival
    sleep_same = rw m (sym (sleep_step day k p.tested c ∙ rw unrefused_sleep))

  -- It steps as sleep does, and the next event comes.
  record Sleeps (r : List ℕ) : Type 0 where
    listless : Listless r
    same : step day k r ≡ step day k sleep
    wakes : comes_by last_instant (next_event k) ≡ true

  sleeping : (r : List ℕ) → sleeps day k r ≡ true → Sleeps r
  unfolding answered
  sleeping r q = go (opened r).answer refl (rw on at q)
    where
      on : step day k r ≡ step_opened day k (opened r).answer (opened r).list
      on = step_on day k r p.tested

      carried : (h : Head) (n : ℕ) → let c = call_with h (opened r).list in
          (opened r).answer ≡ Ok h → h.mark ≡ SL → refusal_of day k c ≡ n
          → step day k r ≡ or_refuse k n (carry_out day k c) → is_accepted (or_refuse k n (carry_out day k c)).answer ≡ true → Sleeps r
      carried h zero e m z s a =
          let c = call_with h (opened r).list in
          record { listless = sleep_listless r h e m; same = s ∙ sleep_same c m z; wakes = sleep_wakes c m z }
      carried h (suc n) e m z s a = contra a (ne_eqb (suc n) 0 (λ x. omega arith))

      go : (x : Read) → (opened r).answer ≡ x → (is_accepted (step_opened day k x (opened r).list).answer && is_sleep x) ≡ true → Sleeps r
      go (Err n) e z = contra z (simp tests)
      go (Ok h) e z =
          let c = call_with h (opened r).list in
          let by = carried_by day k c in
          let b = both _ (is h.mark SL) (rw by at z) in
          carried h (refusal_of day k c) e (is_mark h.mark SL b.1) refl (on ∙ rw e by) b.0

  -- ---- its ticks

  -- The next event is on file, up to the last instant.
  upcoming : comes_by last_instant (next_event k) ≡ true → (x : Instant) × (k.file.next ≡ Some x) × (x.0 ≤ last_instant)
  upcoming = go (next_event k) refl
    where
      go : (m : Moment) → next_event k ≡ m → comes_by last_instant m ≡ true → (x : Instant) × (k.file.next ≡ Some x) × (x.0 ≤ last_instant)
      go None e z = contra z refl
      go (Some x) e z = (x, taken_next day k p.tested ∙ e, leb-true x.0 last_instant z)

  module _ (r : List ℕ) where
    record Ticked : Type 0 where
      ahead : ℕ
      ticks : ticks_to_next k ≡ ahead + 1
      quiet : QuietTicks day ahead k
      last : step day (final day k (row ahead one_tick)) one_tick ≡ step day k r

    ticked : Sleeps r → Ticked
    ticked s =
        let u = upcoming s.wakes in
        let t = sleep_is_ticks day k u.0 p.tables.tasks p.tested u.1 u.2 in
        record {
          ahead = t.ahead;
          ticks = omega (arith, ap (λ (m : Moment). (instant_or k.now m).0 - k.now.0) u.1, t.reach);
          quiet = t.quiet;
          last = sym (s.same ∙ t.last);
        }

    module _ (t : Ticked) where
      one_more : row (ticks_to_next k) one_tick ≡ row t.ahead one_tick ++ (one_tick ∷ [])
      unfolding row
      one_more = rw t.ticks (row_split t.ahead 0 one_tick)

      ticked_state : final day k (row (ticks_to_next k) one_tick) ≡ (step day k r).state
      unfolding final
      ticked_state =
          rw one_more (final_append day k (row t.ahead one_tick) (one_tick ∷ []) ∙ ap (λ (z : Stepped). z.state) t.last)

      ticked_entries : log day k (row (ticks_to_next k) one_tick)
          ≡ row (ticks_to_next k - 1) (quiet_tick k) ++ (entry one_tick (step day k r).answer ∷ [])
      unfolding log
      ticked_entries =
          let e : ticks_to_next k - 1 ≡ t.ahead = omega (arith, t.ticks) in
          rw (one_more, e) (log_append day k (row t.ahead one_tick) (one_tick ∷ []) ∙ rw (t.quiet.answers, t.last))

    -- ---- any record

    as_state : final day k (as_ticks day k r) ≡ (step day k r).state
    unfolding as_ticks
    as_state = by_bool (sleeps day k r) (λ q. rw q (ticked_state (ticked (sleeping r q)))) (λ q. rw q (unfold final in refl))

    as_entries : log day k (as_ticks day k r) ≡ entries_of day k r
    unfolding as_ticks entries_of
    as_entries = by_bool (sleeps day k r) (λ q. rw q (ticked_entries (ticked (sleeping r q)))) (λ q. rw q (unfold log in refl))

-- ---- what is counted

-- Two logs of which every count is the same, with or without an accepted declaration.
record Alike (es fs : List Entry) : Type 0 where
  same_count : (x : Set) (i : ℕ) → count x i es ≡ count x i fs
  same_returned : (v : Wait) (x : ℕ) → returned v x es ≡ returned v x fs
  same_grants : (n : ℕ) (v : Wait) (x : ℕ) (before : Running) (last : Asking) → grants n v x before last es ≡ grants n v x before last fs
  same_without : without accepted_declaration es ≡ without accepted_declaration fs

alike_entry : (r : List ℕ) (a : Answer) (es fs : List Entry) → Alike es fs → Alike (entry r a ∷ es) (entry r a ∷ fs)
unfolding count returned grants without
alike_entry r a es fs h =
    record {
      same_count = λ x i. rw (h.same_count x i);
      same_returned = λ v x. rw (h.same_returned v x);
      same_grants = λ n v x before last. rw (h.same_grants n v x a.running (asked_after before (entry r a) last));
      same_without = rw h.same_without;
    }

-- The entry of a record that names no list and declares nothing.
module _ (r : List ℕ) (h : Listless r) (a : Answer) (es : List Entry) where
  listless_returned : (v : Wait) (x : ℕ) → returned v x (entry r a ∷ es) ≡ returned v x es
  unfolding returned
  listless_returned v x = rw (h.gives_none, no_kind v x (names_of gives r).list) (omega arith)

  listless_grants : (n : ℕ) (v : Wait) (x : ℕ) (before : Running) (last : Asking)
      → grants n v x before last (entry r a ∷ es) ≡ grants_in n v x last a.sets.granted + grants n v x a.running last es
  unfolding grants asked_after
  listless_grants n v x before last = rw h.asks_none (simp tests)

  listless_without : without accepted_declaration (entry r a ∷ es) ≡ without accepted_declaration es
  unfolding without
  listless_without = rw h.undeclaring (simp tests)

-- ---- quiet ticks, and one with the answer a

module _ (k : State) (a : Answer) (es : List Entry) where
  abbrev as_told : ℕ → List Entry
  as_told d = row d (quiet_tick k) ++ (entry one_tick a ∷ es)

  row_count : (d : ℕ) (x : Set) (i : ℕ) → count x i (as_told d) ≡ count x i (entry one_tick a ∷ es)
  unfolding row count
  row_count zero x i = refl
  row_count (suc d) x i = rw (no_members x, has_empty i) (omega (arith, row_count d x i))

  row_returned : (d : ℕ) (v : Wait) (x : ℕ) → returned v x (as_told d) ≡ returned v x es
  unfolding row
  row_returned zero v x = listless_returned one_tick tick_listless a es v x
  row_returned (suc d) v x = listless_returned one_tick tick_listless _ _ v x ∙ row_returned d v x

  row_grants : (d n : ℕ) (v : Wait) (x : ℕ) (before : Running) (last : Asking)
      → grants n v x before last (as_told d) ≡ grants_in n v x last a.sets.granted + grants n v x a.running last es
  unfolding row
  row_grants zero n v x before last = listless_grants one_tick tick_listless a es n v x before last
  row_grants (suc d) n v x before last =
      listless_grants one_tick tick_listless _ _ n v x before last ∙ rw (no_grants n v x last) (omega (arith, row_grants d n v x (runner k) last))

  row_without : (d : ℕ) → without accepted_declaration (as_told d) ≡ without accepted_declaration es
  unfolding row
  row_without zero = listless_without one_tick tick_listless a es
  row_without (suc d) = listless_without one_tick tick_listless _ _ ∙ row_without d

-- They count as one record with that answer.
alike_sleep : (r : List ℕ) → Listless r → (k : State) (a : Answer) (d : ℕ) (es fs : List Entry) → Alike es fs
    → Alike (as_told k a es d) (entry r a ∷ fs)
alike_sleep r h k a d es fs s =
    record {
      same_count = λ x i. row_count k a es d x i ∙ (unfold count in rw (s.same_count x i));
      same_returned = λ v x. row_returned k a es d v x ∙ s.same_returned v x ∙ sym (listless_returned r h a fs v x);
      same_grants = λ n v x before last.
          row_grants k a es d n v x before last ∙ rw (s.same_grants n v x a.running last) (sym (listless_grants r h a fs n v x before last));
      same_without = row_without k a es d ∙ s.same_without ∙ sym (listless_without r h a fs);
    }

-- ---- a list of records

module _ (day : ℕ) (k : State) (p : Passes day k) (r : List ℕ) where
  alike_record : (es fs : List Entry) → Alike es fs → Alike (entries_of day k r ++ es) (entry r (step day k r).answer ∷ fs)
  unfolding entries_of
  alike_record es fs h =
      let a = (step day k r).answer in
      by_bool (sleeps day k r)
      (λ q. rw (q, append_assoc (row (ticks_to_next k - 1) (quiet_tick k)) (entry one_tick a ∷ []) es)
      (alike_sleep r (sleeping day k p r q).listless k a (ticks_to_next k - 1) es fs h))
      (λ q. rw q (alike_entry r a es fs h))

record InTicks (day : ℕ) (k : State) (rs : List (List ℕ)) : Type 0 where
  state : final day k (in_ticks day k rs) ≡ final day k rs
  entries : log day k (in_ticks day k rs) ≡ entries_in_ticks day k rs
  alike : Alike (entries_in_ticks day k rs) (log day k rs)

in_ticks_law : (day : ℕ) → IsDay day → (rs : List (List ℕ)) (k : State) → Passes day k → AllOctets rs → InTicks day k rs
unfolding AllOctets final log in_ticks entries_in_ticks
in_ticks_law day is_day [] k p o =
    record {
      state = refl;
      entries = refl;
      alike = record { same_count = λ x i. refl; same_returned = λ v x. refl; same_grants = λ n v x before last. refl; same_without = refl };
    }
in_ticks_law day is_day (r ∷ rs) k p o =
    let z = (step day k r).state in
    let h = in_ticks_law day is_day rs z (step_passes day is_day k p r o.0) o.1 in
    let one = as_state day k p r in
    record {
      state = final_append day k (as_ticks day k r) (in_ticks day z rs) ∙ rw one h.state;
      entries = log_append day k (as_ticks day k r) (in_ticks day z rs) ∙ rw (one, as_entries day k p r, h.entries);
      alike = alike_record day k p r (entries_in_ticks day z rs) (log day z rs) h.alike;
    }

pub sleeps_count_as_ticks : SleepsCountAsTicks
sleeps_count_as_ticks day is_day k p rs o =
    let t = in_ticks_law day is_day rs k p o in
    record {
      state = t.state;
      entries = t.entries;
      counts = λ x i. rw t.entries (t.alike.same_count x i);
      returns = λ v x. rw t.entries (t.alike.same_returned v x);
      grants = λ n v x. rw t.entries (t.alike.same_grants n v x _ _);
    }

-- ---- bytes

octets_every : (s : List ℕ) → every (λ b. ltb b 256) s ≡ true → Octets s
unfolding every
octets_every [] e i = omega arith
octets_every (b ∷ s) e zero = ltb-true b 256 (both (ltb b 256) _ e).0
octets_every (b ∷ s) e (suc i) = octets_every s (both (ltb b 256) _ e).1 i

tick_octets : Octets one_tick
tick_octets = octets_every one_tick (unfold every bytes_of in refl)

octets_row : (n : ℕ) → AllOctets (row n one_tick)
unfolding AllOctets row
octets_row zero = tt
octets_row (suc n) = (tick_octets, octets_row n)

octets_both : (a b : List (List ℕ)) → AllOctets a → AllOctets b → AllOctets (a ++ b)
unfolding AllOctets
octets_both [] b p q = q
octets_both (r ∷ a) b p q = (p.0, octets_both a b p.1 q)

octets_as : (day : ℕ) (k : State) (r : List ℕ) → Octets r → AllOctets (as_ticks day k r)
unfolding as_ticks
octets_as day k r o = by_bool (sleeps day k r) (λ q. rw q (octets_row (ticks_to_next k))) (λ q. rw q (unfold AllOctets in (o, tt)))

octets_in : (day : ℕ) (rs : List (List ℕ)) (k : State) → AllOctets rs → AllOctets (in_ticks day k rs)
unfolding AllOctets in_ticks
octets_in day [] k o = tt
octets_in day (r ∷ rs) k o =
    octets_both (as_ticks day k r) (in_ticks day (step day k r).state rs) (octets_as day k r o.0) (octets_in day rs (step day k r).state o.1)

-- ---- from a fresh kernel

pub balance_in_ticks : BalanceInTicks
balance_in_ticks day is_day k f rs o q =
    let p : Passes day k = record { tables = f.tables; tested = f.tested } in
    let t = in_ticks_law day is_day rs k p o in
    let octets = octets_in day rs k o in
    let none = ap (without accepted_declaration) t.entries ∙ t.alike.same_without ∙ q in
    (octets, none, balance day is_day k f (in_ticks day k rs) octets none, sleeps_count_as_ticks day is_day k p rs o)
