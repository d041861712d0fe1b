-- The books of one step.
use Rattle.std.specs.Prelude.{Err, Ok}
use mathlib.Core.Path.{◌≡◌, refl, sym, ◌∙◌}
use mathlib.Core.Logic.{◌≢◌}
use mathlib.Core.Bool.{Bool, true, false, not, cond, ◌&&◌, ◌||◌}
use mathlib.Core.List.{List}
use Prim.Native.Nat.{ℕ, zero, suc, ◌*◌, ◌<◌}
use native.Mathlib.Omega.{arith}
use lib.Dec.{eqb}
use borrow.Author.Tests.{ne_eqb}
use Rattle.record.specs.Refusals.{named}
use Rattle.record.specs.Reading.{call_with, opened, Read}
use Rattle.layout.specs.Fields.{Octets}
use Rattle.layout.specs.declared.Head.{Head}
use Rattle.lock.specs.Locks.{bit, waiting, level}
use Rattle.lock.specs.declared.Wait.{Wait}
use Rattle.facts.proofs.Bools.{tests, by_bool, contra, or_right}
use Rattle.lock.proofs.Levels.{Law, law_refl}
use Rattle.lock.proofs.Exclusion.{Exclusive}
use Rattle.machine.specs.declared.State.{State}
use Rattle.machine.specs.declared.Answer.{Answer}
use Rattle.machine.specs.Running.{Running, runner}
use Rattle.machine.specs.declared.Stepped.{Stepped}
use Rattle.machine.specs.Sets.{Granted, has}
use Rattle.machine.specs.State.{task_at}
use Rattle.machine.specs.Work.{Work}
use Rattle.machine.specs.Sorts.{declares}
use Rattle.machine.specs.Calls.{work_of}
use Rattle.machine.specs.Step.{answered, finish, or_refuse, carry_out, carry_on, step}
use Rattle.machine.specs.OnePass.{unserved}
use Rattle.machine.specs.Log.{is_declaration}
use Rattle.machine.specs.Invariants.{IsDay}
use Rattle.machine.proofs.SetLaws.{has_empty}
use Rattle.machine.proofs.Facts.{StateOk, passes_of_ok}
use Rattle.machine.proofs.Passed.{refusal_of, passed}
use Rattle.machine.proofs.Opened.{opened_refused, opened_priority}
use Rattle.machine.proofs.Cases.{done_number, carried_by, step_opened, step_on}
use Rattle.machine.proofs.Done.{Did, role, call_done}
use Rattle.machine.proofs.Keeping.{unserved_ok, did_ok, finish_ok}
use Rattle.balance.specs.Counting.{is_accepted, asks, gives, names_in, Asking, counts, issued_by, grants_in, Open, is_issuer, stays, is_in}
use Rattle.balance.specs.Balance.{prevents}
use Rattle.balance.proofs.Grants.{moved_refl, law_moved, no_grants}
use Rattle.balance.proofs.Works.{Ties, asks_if, last_if, waits_now, waiting_in, Marked, granted_marked, has_in, Declared, regranted, only_granted}
use Rattle.balance.proofs.Calls.{did_books}
use Rattle.balance.proofs.Serving.{served_books}
use Rattle.facts.proofs.Numbers.{pow_pos}

-- What the counts of a log go by, for a record that reads as r with the list l.
module _ (a : Answer) (r : Read) (l : List ℕ) (before : Running) where
  abbrev pub last_then : Asking → Asking
  last_then last = cond (is_accepted a && waiting (names_in asks r l).kind) (issued_by before (names_in asks r l) last) last

  abbrev pub asks_then : ℕ → Bool
  asks_then i = is_accepted a && waiting (names_in asks r l).kind && is_issuer before i

  abbrev pub open_now : Open → Open
  open_now was i = (was i && not (is_in a.sets.ended i)) || asks_then i

  abbrev pub open_then : Open → Open
  open_then was i = ((was i && not (is_in a.sets.ended i)) || (asks_then i && stays r)) && not (is_in a.sets.granted i)

-- What each step keeps, besides the kernel test.
pub record Invariant (day : ℕ) (k : State) (last : Asking) (was : Open) : Type 0 where
  pub ok : StateOk day k
  pub ties : Ties k.counts.tasks k.tasks last
  pub opens : (i : ℕ) → i < k.counts.tasks → was i ≡ waiting (task_at k.tasks i).wait
  pub exclusive : Exclusive k.counts.bolts k.locks

pub record StepBooks (day : ℕ) (k : State) (last : Asking) (was : Open) (r : Read) (l : List ℕ) (s : Stepped) : Type 0 where
  pub next : Invariant day s.state (last_then s.answer r l (runner k) last) (open_then s.answer r l (runner k) was)
  pub counts_same : s.state.counts ≡ k.counts
  pub runs : s.answer.running ≡ runner s.state
  pub marked : (i : ℕ) → i < k.counts.tasks → Marked (is_accepted s.answer && prevents r i) (task_at k.tasks i) (task_at s.state.tasks i) (has_in i s.answer.sets)
  pub values : (v : Wait) (x : ℕ) → Law v (level v s.state.locks x) (grants_in k.counts.tasks v x (last_then s.answer r l (runner k) last) s.answer.sets.granted) (bit (is_accepted s.answer) * counts v x (names_in gives r l)) (level v k.locks x)
  pub grants : (i : ℕ) → i < k.counts.tasks → has i s.answer.sets.granted ≡ 1 → open_now s.answer r l (runner k) was i ≡ true
  pub begun : s.state.begun ≡ (k.begun || is_accepted s.answer)
  pub declared : Declared k.counts.tasks s.answer.sets

or_more : (a b c : Bool) → (a || (b && c)) ≡ true → (a || b) ≡ true
or_more true b c e = refl
or_more false true c e = refl
or_more false false c e = e

module _ (day : ℕ) (is_day : IsDay day) (k : State) (last : Asking) (was : Open) (h : Invariant day k last was) where
  abbrev n : ℕ
  n = k.counts.tasks

  refused_books : (r : Read) (l : List ℕ) (m : ℕ) → StepBooks day k last was r l (answered k (suc m) (runner k))
  unfolding answered
  refused_books r l m =
      let no : eqb (suc m) 0 ≡ false = ne_eqb (suc m) 0 (λ z. omega arith) in
      record {
        next =
            record {
              ok = h.ok;
              ties = rw no h.ties;
              opens = λ i q. rw (no, has_empty i) (simp tests (h.opens i q));
              exclusive = h.exclusive;
            };
        counts_same = refl;
        runs = refl;
        marked = λ i q. rw no (granted_marked (task_at k.tasks i) i 0);
        values = λ v x. rw (no, no_grants n v x last) (zeros v x (counts v x (names_in gives r l)));
        grants = λ i q e. absurd (omega (arith, has_empty i));
        begun = rw no (simp tests);
        declared = only_granted n 0 (pow_pos n);
      }
    where
      zeros : (v : Wait) (x c : ℕ) → Law v (level v k.locks x) 0 (0 * c) (level v k.locks x)
      zeros v x c = let z : 0 * c ≡ 0 = omega arith in rw z (law_refl v (level v k.locks x))

  module _ (d : Head) (l : List ℕ) where
    finish_books : (w : Work) → Did day k (call_with d l) (role d.mark) w → StepBooks day k last was (Ok d) l (finish k w)
    unfolding finish asks gives
    finish_books w did =
        let c = call_with d l in
        let r = role d.mark in
        let last' = last_if (record { kind = r.asks; list = named c }) (runner k) last in
        let b = did_books day k h.ok c last did in
        let o = did_ok day k h.ok did in
        let p = unserved w in
        let before : Open = waits_now r (runner k) (waiting_in k) w.sets.ended in
        let asking : Open = λ i. (waiting_in k i && not (is_in w.sets.ended i)) || asks_if r.asks (runner k) i in
        let s = served_books day k h.ok last' before asking (λ i. or_more (waiting_in k i && not (is_in w.sets.ended i)) (asks_if r.asks (runner k) i) r.stays) p
        (record {
          ok = unserved_ok day k h.ok w o;
          kept_same = λ i. refl;
          alive_same = λ i. refl;
          ties = b.ties h.ties;
          waits = b.waits;
          asked = λ i q e. or_right (waiting_in k i && not (is_in w.sets.ended i)) (asks_if r.asks (runner k) i) (b.asked i q e);
          granted_lt = b.declared Granted;
          values = λ v x. moved_refl v (level v w.locks x) (grants_in n v x last' w.sets.granted);
          exclusive = b.exclusive h.exclusive;
        }) in
        record {
          next =
              record {
                ok = finish_ok day k h.ok w o;
                ties = s.ties;
                opens = λ i q. rw (h.opens i q) (sym (s.waits i q));
                exclusive = s.exclusive;
              };
          counts_same = refl;
          runs = refl;
          marked = λ i q.
              let m = b.marked i q in
              record { starts = rw (s.kept_same i) m.starts; ends = rw (s.alive_same i) m.ends; lost = m.lost };
          values = λ v x.
              let z = law_moved v (level v k.locks x) (level v w.locks x) _ _ _ (counts v x (record { kind = r.gives; list = named c })) (b.values v x) (s.values v x) in
              let one : 1 * counts v x (record { kind = r.gives; list = named c }) ≡ counts v x (record { kind = r.gives; list = named c }) = omega arith in
              rw one z;
          grants = λ i q e. rw (h.opens i q) (s.asked i q e);
          begun = simp tests;
          declared = regranted n w.sets _ b.declared s.granted_lt;
        }

    carry_books : d.priority < 256 → not (is_accepted (carry_on day k (call_with d l)).answer && declares d.mark) ≡ true → StepBooks day k last was (Ok d) l (carry_on day k (call_with d l))
    carry_books b o = let by = carried_by day k (call_with d l) in rw by (go (refusal_of day k (call_with d l)) refl (rw by at o))
      where
        go : (m : ℕ) → refusal_of day k (call_with d l) ≡ m → not (is_accepted (or_refuse k m (carry_out day k (call_with d l))).answer && declares d.mark) ≡ true → StepBooks day k last was (Ok d) l (or_refuse k m (carry_out day k (call_with d l)))
        go (suc m) e q = refused_books (Ok d) l m
        go zero e q =
            by_bool (declares d.mark) (λ z. contra q (rw (done_number day k (call_with d l), z)))
            (λ z. unfold carry_out in rw z
            (finish_books (work_of day k (call_with d l)) (call_done day is_day k h.ok (call_with d l) (omega arith) z (passed day k (call_with d l) e))))

  -- A record that reads as r with the list l.
  read_books : (r : Read) (l : List ℕ) → ((m : ℕ) → r ≡ Err m → m ≡ 2) → ((d : Head) → r ≡ Ok d → d.priority < 256)
      → not (is_accepted (step_opened day k r l).answer && is_declaration r) ≡ true → StepBooks day k last was r l (step_opened day k r l)
  read_books (Err m) l two byte o = let e = two m refl in rw e (refused_books (Err 2) l 1)
  read_books (Ok d) l two byte o = carry_books d l (byte d refl) o

  pub step_books : (s : List ℕ) → Octets s → not (is_accepted (step day k s).answer && is_declaration (opened s).answer) ≡ true
      → StepBooks day k last was (opened s).answer (opened s).list (step day k s)
  step_books s o q =
      let on = step_on day k s (passes_of_ok day k h.ok).tested in
      rw on (read_books (opened s).answer (opened s).list (opened_refused s) (λ d e. opened_priority s d o e) (rw on at q))
