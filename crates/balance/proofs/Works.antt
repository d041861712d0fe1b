-- The books of a work, before the waiting tasks are served: what they are, and those of turns.
use Rattle.std.specs.Prelude.{is_some}
use mathlib.Core.Path.{◌≡◌, refl, sym, ap, ◌∙◌}
use mathlib.Core.Logic.{◌≢◌}
use mathlib.Core.Bool.{Bool, true, false, not, cond, ◌&&◌, ◌||◌}
use mathlib.Core.List.{List, map}
use Prim.Native.Nat.{ℕ, ◌+◌, ◌^◌, ◌<◌}
use native.Mathlib.Omega.{arith}
use lib.Dec.{eqb}
use lib.Seq.{get_or-set_same, get_or-set_other}
use borrow.Author.Tests.{eq-eqb, ne_eqb}
use Rattle.calendar.specs.declared.Instant.{Instant}
use Rattle.record.specs.Refusals.{named}
use Rattle.layout.specs.declared.Call.{Call}
use Rattle.lock.specs.Locks.{bit, waiting, level}
use Rattle.lock.specs.declared.Wait.{Wait}
use Rattle.lock.specs.declared.Wait.TheVariants.{Nothing}
use Rattle.facts.proofs.Bools.{tests, by_eq}
use Rattle.lock.proofs.Levels.{Law, law_refl}
use Rattle.lock.proofs.Exclusion.{Exclusive}
use Rattle.task.specs.State.{no_task, wanted}
use Rattle.task.specs.declared.Task.{Task}
use Rattle.task.specs.declared.Turn.{Turn}
use Rattle.task.specs.Promises.{Fair}
use Rattle.machine.specs.declared.State.{State}
use Rattle.machine.specs.Running.{Running, runner}
use Rattle.machine.specs.Sets.{Set, Due, Started, Ended, Lost, has, only, set_of, mark, members, no_sets, with_granted}
use Rattle.machine.specs.declared.Sets.{Sets}
use Rattle.machine.specs.State.{task_at}
use Rattle.machine.specs.Work.{Work, changed, turns, every_turn}
use Rattle.machine.proofs.SetLaws.{members_each, no_members, each_regranted, has_empty, has_only, has_only_other, only_lt}
use Rattle.machine.proofs.Facts.{StateOk, task_room}
use Rattle.machine.proofs.Works.{one_turn, turn_at, set_at, set_lt, set_none}
use Rattle.machine.proofs.Done.{Role, plain_role}
use Rattle.balance.specs.Counting.{Named, Asking, counts, issued_by, grants_in, Open, is_issuer, is_in}
use Rattle.balance.proofs.Grants.{no_grants, no_kind}
use Rattle.lock.proofs.Bits.{eqb_bit}
use Rattle.facts.proofs.Numbers.{pow_pos}

-- One task, by how often each set has it; p: a PREVENT of it.
pub record Marked (p : Bool) (t t' : Task) (m : Set → ℕ) : Type 0 where
  pub starts : bit (is_some t.kept) + m Due ≡ m Started + m Lost + bit (is_some t'.kept)
  pub ends : bit t.alive + m Started ≡ m Ended + bit t'.alive
  pub lost : m Lost ≡ bit (is_some t.kept && ((eqb (m Due) 1 && t.alive) || p))

pub marked_as : {p : Bool} {t t' : Task} (m m' : Set → ℕ) → ((x : Set) → m' x ≡ m x) → Marked p t t' m → Marked p t t' m'
marked_as m m' e h =
    record {
      starts = rw (e Due, e Started, e Lost) h.starts;
      ends = rw (e Started, e Ended) h.ends;
      lost = rw (e Due, e Lost) h.lost;
    }

abbrev pub marks_bits : Turn → Set → ℕ
marks_bits u x = bit (mark x u.marks)

fair_marked : (p : Bool) (t : Task) (u : Turn) → Fair p t u → Marked p t u.task (marks_bits u)
fair_marked p t u f =
    record { starts = f.starts; ends = f.ends; lost = rw (eqb_bit u.marks.due) (ap bit f.lost) }

-- A task in no set.
pub still_marked : (t t' : Task) → t'.kept ≡ t.kept → t'.alive ≡ t.alive → Marked false t t' (λ x. 0)
still_marked t t' k a = record { starts = rw k (omega arith); ends = rw a (omega arith); lost = simp tests }

-- How often each set has task i.
abbrev pub has_in : ℕ → Sets → Set → ℕ
has_in i s x = has i (members x s)

-- At most granted.
pub granted_marked : (t : Task) (i g : ℕ) → Marked false t t (has_in i (with_granted g no_sets))
granted_marked t i g =
    let s = still_marked t t refl refl in
    record { starts = rw (has_empty i) s.starts; ends = rw (has_empty i) s.ends; lost = rw (has_empty i) s.lost }

-- The five sets name the first n tasks only.
abbrev pub Declared : ℕ → Sets → Type 0
Declared n s = (x : Set) → members x s < 2 ^ n

pub regranted : (n : ℕ) (s : Sets) (g : ℕ) → Declared n s → g < 2 ^ n → Declared n (with_granted g s)
regranted n = each_regranted (λ (m : ℕ). m < 2 ^ n)

pub only_granted : (n g : ℕ) → g < 2 ^ n → Declared n (with_granted g no_sets)
only_granted n g h = regranted n no_sets g (λ x. rw (no_members x) (pow_pos n)) h

-- What a task waits for.
abbrev pub asked_by : Task → Named
asked_by t = record { kind = t.wait; list = wanted t }

-- Each waiting task's list is that of its last asking.
abbrev pub Ties : ℕ → List Task → Asking → Type 0
Ties n ts last = (i : ℕ) → i < n → waiting (task_at ts i).wait ≡ true → last i ≡ asked_by (task_at ts i)

-- Task i asks, with an accepted call that asks for w.
abbrev pub asks_if : Wait → Running → ℕ → Bool
asks_if w before i = waiting w && is_issuer before i

abbrev pub last_if : Named → Running → Asking → Asking
last_if n before last = cond (waiting n.kind) (issued_by before n last) last

-- Who waits where serving begins, but for grants made already.
abbrev pub waits_now : Role → Running → Open → ℕ → Open
waits_now r before was ended i = (was i && not (is_in ended i)) || (asks_if r.asks before i && r.stays)

abbrev pub waiting_in : State → Open
waiting_in k i = waiting (task_at k.tasks i).wait

pub record WorkBooks (k : State) (c : Call) (r : Role) (last last' : Asking) (w : Work) : Type 0 where
  pub marked : (i : ℕ) → i < k.counts.tasks
      → Marked (r.prevents && eqb c.head.number i) (task_at k.tasks i) (task_at w.tasks i) (has_in i w.sets)
  pub ties : Ties k.counts.tasks k.tasks last → Ties k.counts.tasks w.tasks last'
  pub waits : (i : ℕ) → i < k.counts.tasks
      → waiting (task_at w.tasks i).wait ≡ (waits_now r (runner k) (waiting_in k) w.sets.ended i && not (is_in w.sets.granted i))
  pub asked : (i : ℕ) → i < k.counts.tasks → has i w.sets.granted ≡ 1 → asks_if r.asks (runner k) i ≡ true
  pub values : (v : Wait) (x : ℕ)
      → Law v (level v w.locks x) (grants_in k.counts.tasks v x last' w.sets.granted) (counts v x (record { kind = r.gives; list = named c })) (level v k.locks x)
  pub exclusive : Exclusive k.counts.bolts k.locks → Exclusive k.counts.bolts w.locks
  pub declared : Declared k.counts.tasks w.sets

-- Nothing granted and nothing given back.
pub unmoved : (k : State) (l : List ℕ) (last : Asking) (v : Wait) (x : ℕ)
    → Law v (level v k.locks x) (grants_in k.counts.tasks v x last 0) (counts v x (record { kind = Nothing; list = l })) (level v k.locks x)
unmoved k l last v x = rw (no_grants k.counts.tasks v x last, no_kind v x l) (law_refl v (level v k.locks x))

pub none_granted : {X : Type 0} (i : ℕ) → has i 0 ≡ 1 → X
none_granted i e = absurd (omega (arith, has_empty i))

prevents_at : (p : Bool) (x i : ℕ) → (p ≡ true → x ≡ i) → (p && eqb x i) ≡ p
prevents_at false x i f = refl
prevents_at true x i f = eq-eqb x i (f refl)

prevents_other : (p : Bool) (x i j : ℕ) → (p ≡ true → x ≡ i) → j ≢ i → (p && eqb x j) ≡ false
prevents_other false x i j f ne = refl
prevents_other true x i j f ne = ne_eqb x j (λ e. ne (sym e ∙ f refl))

module _ (day : ℕ) (k : State) (h : StateOk day k) (c : Call) where
  abbrev n : ℕ
  n = k.counts.tasks

  abbrev t : ℕ → Task
  t i = task_at k.tasks i

  module _ (i : ℕ) (u : Turn) (l : i < n) where
    pub at_turn : task_at (one_turn k i u).tasks i ≡ u.task
    unfolding changed
    at_turn = get_or-set_same k.tasks i u.task no_task (omega (arith, task_room day k h))

    pub at_other : (j : ℕ) → j ≢ i → task_at (one_turn k i u).tasks j ≡ t j
    unfolding changed
    at_other j ne = get_or-set_other k.tasks i j u.task no_task ne

    has_here : (x : Set) → has_in i (one_turn k i u).sets x ≡ marks_bits u x
    unfolding changed
    has_here x = rw (members_each x (λ y. only i (mark y u.marks))) (has_only i (mark x u.marks))

    has_there : (j : ℕ) → j ≢ i → (x : Set) → has_in j (one_turn k i u).sets x ≡ 0
    unfolding changed
    has_there j e x = rw (members_each x (λ y. only i (mark y u.marks))) (has_only_other i j (mark x u.marks) e)

    pub one_marked : (p : Bool) → (p ≡ true → c.head.number ≡ i) → Marked p (t i) u.task (marks_bits u) → (j : ℕ)
        → Marked (p && eqb c.head.number j) (t j) (task_at (one_turn k i u).tasks j) (has_in j (one_turn k i u).sets)
    one_marked p f m j =
        by_eq j i
        (λ e. rw (e, prevents_at p c.head.number i f, at_turn) (marked_as (marks_bits u) _ has_here m))
        (λ e. rw (prevents_other p c.head.number i j f e, at_other j e) (marked_as (λ x. 0) _ (has_there j e) (still_marked (t j) (t j) refl refl)))

    pub one_declared : Declared n (one_turn k i u).sets
    unfolding changed
    one_declared x = rw (members_each x (λ y. only i (mark y u.marks))) (only_lt n i (mark x u.marks) l)

    -- A turn of one task.
    pub turned_books : (last : Asking) (p : Bool) → (p ≡ true → c.head.number ≡ i) → Fair p (t i) u → WorkBooks k c (plain_role p) last last (one_turn k i u)
    turned_books last p f g =
        record {
          marked = λ j q. one_marked p f (fair_marked p (t i) u g) j;
          ties = λ b j q w. by_eq j i
              (λ e. let z = rw (e, at_turn) at w in let y = g.wants z in rw (e, at_turn, y.0, y.1) (b i l (rw y.0 at z)))
              (λ e. rw (at_other j e) (b j q (rw (at_other j e) at w)));
          waits = λ j q. by_eq j i
              (λ e. rw (e, at_turn, g.waits) (unfold changed in rw (g.granted, has_only i u.marks.ended, has_empty i, eqb_bit u.marks.ended) (simp tests)))
              (λ e. rw (at_other j e) (unfold changed in rw (g.granted, has_only_other i j u.marks.ended e, has_empty j) (simp tests)));
          asked = unfold changed in rw g.granted (λ j q e. none_granted j e);
          values = unfold changed in rw g.granted (unmoved k (named c) last);
          exclusive = unfold changed in λ e. e;
          declared = one_declared;
        }

  -- A turn of every task.
  pub every_books : (last : Asking) (m : Instant) (f : Task → Turn) → ((i : ℕ) → i < n → Fair false (t i) (f (t i))) → WorkBooks k c (plain_role false) last last (every_turn k m f)
  unfolding every_turn
  every_books last m f g =
      let room = task_room day k h in
      let none = set_none n f k.tasks room (λ u. u.marks.granted) (λ i l. (g i l).granted) in
      record {
        marked = λ i l. rw (turn_at n f k.tasks room i l) (marked_as (marks_bits (f (t i))) _ (λ x. rw (members_each x (λ y. set_of (map (λ u. mark y u.marks) (turns n f k.tasks)))) (set_at n f k.tasks room (λ u. mark x u.marks) i l)) (fair_marked false (t i) (f (t i)) (g i l)));
        ties = λ b i l w.
            let z = rw (turn_at n f k.tasks room i l) at w in
            let y = (g i l).wants z in
            rw (turn_at n f k.tasks room i l, y.0, y.1) (b i l (rw y.0 at z));
        waits = λ i l. rw (turn_at n f k.tasks room i l, (g i l).waits, set_at n f k.tasks room (λ u. u.marks.ended) i l, none, has_empty i, eqb_bit (f (t i)).marks.ended) (simp tests);
        asked = rw none (λ i l e. none_granted i e);
        values = rw none (unmoved k (named c) last);
        exclusive = λ e. e;
        declared = λ x. rw (members_each x (λ y. set_of (map (λ u. mark y u.marks) (turns n f k.tasks)))) (set_lt n f k.tasks room (λ u. mark x u.marks));
      }
