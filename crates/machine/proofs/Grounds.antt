-- Each number is given on its ground, and on no other.
use Rattle.std.specs.Prelude.{None, Some}
use mathlib.Core.Path.{◌≡◌, refl, sym, subst, ◌∙◌}
use mathlib.Core.Logic.{◌≢◌, ◌⊎◌, inl, inr, ◌↔◌}
use mathlib.Core.Bool.{Bool, true, false, not, ◌&&◌, ◌||◌}
use mathlib.Core.List.{List, [], ◌∷◌}
use Prim.Native.Nat.{ℕ, zero, ◌≤◌}
use native.Mathlib.Omega.{arith}
use lib.Dec.{leb, ltb, eqb}
use borrow.Author.Tests.{ltb-false, leb-false, eqb-true, not-false, le-ltb, lt-leb}
use Rattle.calendar.specs.Limits.{last_instant}
use Rattle.calendar.specs.Moments.{comes_by, Moment}
use Rattle.calendar.specs.declared.Instant.{Instant}
use Rattle.layout.specs.Marks.{is, form}
use Rattle.layout.specs.declared.Call.{Call}
use Rattle.layout.specs.declared.Form.{Form}
use Rattle.layout.specs.declared.Mark.{Mark}
use Rattle.layout.specs.declared.Mark.TheVariants.{DT, DS, DB, IT, DC, AC, TE, SU, PR, CO, EN, RE, RQ, RL, TR, RS, FR, ET, LV, TG, EI, XI, TI, SL}
use Rattle.lists.specs.Lists.{names, every}
use Rattle.lists.proofs.EveryLaws.{names_same, names_tail, every_at}
use Rattle.lock.specs.Locks.{waiting, value_at, bolt_at, can_move, returnable}
use Rattle.lock.specs.declared.Locks.{Locks}
use Rattle.lock.specs.declared.Wait.{Wait}
use Rattle.lock.specs.declared.Wait.TheVariants.{Nothing, Request, Reserve, Enter}
use Rattle.record.specs.Refusals.{most_value, on_interrupt, uses, clean_names, clean_start, ranged, formed_as, formed, named, unless, first_refusal, shape, times}
use Rattle.facts.proofs.Bools.{by_bool, contra, both, neither, or_then}
use Rattle.task.specs.State.{unheld, suspended}
use Rattle.task.specs.declared.Hold.{Hold}
use Rattle.task.specs.declared.Hold.TheVariants.{Unheld, Suspended, Delayed}
use Rattle.task.specs.declared.Task.{Task}
use Rattle.machine.specs.declared.Counts.{Counts}
use Rattle.machine.specs.declared.State.{State}
use Rattle.machine.specs.Running.{Running, runner, someone}
use Rattle.machine.specs.NextEvent.{next_event}
use Rattle.machine.specs.Sorts.{sort_of, declares, needs_runner, given_kind}
use Rattle.machine.specs.Refusals.{start_declared, declared_by, declared_in, room_for, formal_refusal, unreturnable, is_continue, refusal_by, state_refusal}
use Rattle.machine.specs.Grounds.{NoTask, NoInterrupt, NoStart, NotAll, Undeclared, Full, OfRunner, its_task, Ground, DelayedIsSuspended}

-- ---- lists

some_fails : (f : ℕ → Bool) (l : List ℕ) → every f l ≡ false → (x : ℕ) × (names l x ≡ true) × (f x ≡ false)
unfolding every
some_fails f [] e = contra refl e
some_fails f (y ∷ l) e =
    by_bool (f y)
    (λ q. let (x, n, z) = some_fails f l (rw q at e) in (x, names_tail y x l n, z))
    (λ q. (y, names_same y l, q))

fails : (f : ℕ → Bool) (l : List ℕ) (x : ℕ) → names l x ≡ true → f x ≡ false → every f l ≡ false
fails f l x n z = by_bool (every f l) (λ q. contra (every_at f l x q n) z) (λ q. q)

-- ---- 5

module _ (n : Counts) (c : Call) where
  no_task_law : (ltb c.head.number n.tasks ≡ false) ↔ NoTask n c
  no_task_law = (ltb-false _ _, le-ltb _ _)

  no_interrupt_law : (ltb c.head.number n.interrupts ≡ false) ↔ NoInterrupt n c
  no_interrupt_law = (ltb-false _ _, le-ltb _ _)

  not_all : (most : ℕ) → (every (λ x. ltb x most) (named c) ≡ false) ↔ NotAll most c
  not_all most = (
    λ e. let (x, y, z) = some_fails (λ x. ltb x most) (named c) e in (x, y, ltb-false x most z),
    λ h. fails (λ x. ltb x most) (named c) h.0 h.1 (le-ltb h.0 most h.2),
  )

  on_interrupt_law : on_interrupt c.head.kind ≡ true → (c.head.kind ≡ 3) ⊎ (c.head.kind ≡ 4)
  on_interrupt_law e = by_bool (eqb c.head.kind 3) (λ q. inl (eqb-true _ _ q)) (λ q. inr (eqb-true _ _ (rw q at e)))

  of_interrupt : (c.head.kind ≡ 3) ⊎ (c.head.kind ≡ 4) → on_interrupt c.head.kind ≡ true
  of_interrupt (inl e) = rw e
  of_interrupt (inr e) = rw e

  no_start : (start_declared n c.head ≡ false) ↔ NoStart n c
  no_start = (
    λ e. let (a, b) = neither (not (on_interrupt c.head.kind)) _ e in (on_interrupt_law (not-false _ a), ltb-false _ _ b),
    λ h. rw (of_interrupt h.0, le-ltb c.head.interrupt n.interrupts h.1),
  )

  abbrev task : Bool
  task = ltb c.head.number n.tasks

  no_either : ((task && start_declared n c.head) ≡ false) ↔ (NoTask n c ⊎ NoStart n c)
  no_either =
      (λ e. by_bool task (λ q. inr (no_start.0 (rw q at e))) (λ q. inl (no_task_law.0 q)), back)
    where
      back : NoTask n c ⊎ NoStart n c → (task && start_declared n c.head) ≡ false
      back (inl h) = rw (no_task_law.1 h)
      back (inr h) = by_bool task (λ q. rw q (no_start.1 h)) (λ q. rw q)

  module _ (plain : c.head.kind ≡ 0) where
    no_condition : start_declared n c.head ≡ true
    no_condition = rw plain

    no_task_plain : ((task && start_declared n c.head) ≡ false) ↔ NoTask n c
    no_task_plain =
        (λ e. by_bool task (λ q. contra no_condition (rw q at e)) (λ q. no_task_law.0 q), λ h. rw (no_task_law.1 h))

-- A call that uses no start kind has kind 0.
unused_kind : (f : Form) (c : Call) → (uses f c.head).kind ≡ false → formed_as f c ≡ true → c.head.kind ≡ 0
unfolding clean_start
unused_kind f c u e =
    let h = c.head in
    let a = both (clean_names (uses f h) c) _ e in
    let b = both (clean_start (uses f h) h) (ranged f h) a.1 in
    let p = both _ _ b.0 in
    let q = both _ _ p.0 in
    let r = both _ _ q.0 in
    let s = both _ _ r.0 in
    let t = both ((uses f h).kind || eqb h.kind 0) _ s.0 in
    eqb-true _ _ (rw u at t.0)

pub undeclared : (m : Mark) (n : Counts) (c : Call) → formed_as (form m) c ≡ true → (declared_in m n c ≡ false) ↔ Undeclared m n c
unfolding declared_by uses
undeclared DT n c f = (λ e. contra refl e, λ x. absurd x)
undeclared DS n c f = (λ e. contra refl e, λ x. absurd x)
undeclared DB n c f = (λ e. contra refl e, λ x. absurd x)
undeclared IT n c f = (λ e. contra refl e, λ x. absurd x)
undeclared DC n c f = (λ e. contra refl e, λ x. absurd x)
undeclared AC n c f = no_either n c
undeclared TE n c f = no_task_plain n c (unused_kind (form TE) c refl f)
undeclared SU n c f = no_task_plain n c (unused_kind (form SU) c refl f)
undeclared PR n c f = no_task_plain n c (unused_kind (form PR) c refl f)
undeclared CO n c f = no_either n c
undeclared EN n c f = (λ e. contra (no_condition n c (unused_kind (form EN) c refl f)) e, λ x. absurd x)
undeclared RE n c f = no_start n c
undeclared RQ n c f = not_all n c n.semaphores
undeclared RL n c f = not_all n c n.semaphores
undeclared TR n c f = not_all n c n.semaphores
undeclared RS n c f = not_all n c n.bolts
undeclared FR n c f = not_all n c n.bolts
undeclared ET n c f = not_all n c n.bolts
undeclared LV n c f = not_all n c n.bolts
undeclared TG n c f = no_interrupt_law n c
undeclared EI n c f = no_interrupt_law n c
undeclared XI n c f = no_interrupt_law n c
undeclared TI n c f = (λ e. contra refl e, λ x. absurd x)
undeclared SL n c f = (λ e. contra refl e, λ x. absurd x)

-- ---- 7

module _ (n : Counts) where
  full_room : (m : Mark) → Full n m → room_for m n ≡ false
  unfolding room_for
  full_room m (Full.tasks e) = rw e
  full_room m (Full.semaphores e) = rw e
  full_room m (Full.bolts e) = rw e
  full_room m (Full.interrupts e) = rw e

  full_known : (m : Mark) (c : Call) → Full n m → declared_in m n c ≡ true
  unfolding declared_by
  full_known m c (Full.tasks e) = refl
  full_known m c (Full.semaphores e) = refl
  full_known m c (Full.bolts e) = refl
  full_known m c (Full.interrupts e) = refl

  module _ (ts : n.tasks ≤ 32) (ss : n.semaphores ≤ 16) (bs : n.bolts ≤ 16) (is : n.interrupts ≤ 8) where
    pub no_room : (m : Mark) → room_for m n ≡ false → Full n m
    unfolding room_for
    no_room DT e = by_bool (ltb n.tasks 32) (λ q. contra refl (rw q at e)) (λ q. let z = ltb-false n.tasks 32 q in Full.tasks (omega arith))
    no_room DS e = by_bool (ltb n.semaphores 16) (λ q. contra refl (rw q at e)) (λ q. let z = ltb-false n.semaphores 16 q in Full.semaphores (omega arith))
    no_room DB e = by_bool (ltb n.bolts 16) (λ q. contra refl (rw q at e)) (λ q. let z = ltb-false n.bolts 16 q in Full.bolts (omega arith))
    no_room IT e = by_bool (ltb n.interrupts 8) (λ q. contra refl (rw q at e)) (λ q. let z = ltb-false n.interrupts 8 q in Full.interrupts (omega arith))
    no_room DC e = contra refl e
    no_room AC e = contra refl e
    no_room TE e = contra refl e
    no_room SU e = contra refl e
    no_room PR e = contra refl e
    no_room CO e = contra refl e
    no_room EN e = contra refl e
    no_room RE e = contra refl e
    no_room RQ e = contra refl e
    no_room RL e = contra refl e
    no_room TR e = contra refl e
    no_room RS e = contra refl e
    no_room FR e = contra refl e
    no_room ET e = contra refl e
    no_room LV e = contra refl e
    no_room TG e = contra refl e
    no_room EI e = contra refl e
    no_room XI e = contra refl e
    no_room TI e = contra refl e
    no_room SL e = contra refl e

-- ---- 8 to 15 and 17

-- The number of a ground.
runner_number : (k : State) (c : Call) (m : Mark) → OfRunner m → runner k ≡ None → state_refusal m k c ≡ 8
unfolding refusal_by
runner_number k c m OfRunner.end e = rw e
runner_number k c m OfRunner.resume e = rw e
runner_number k c m OfRunner.request e = rw e
runner_number k c m OfRunner.release e = rw e
runner_number k c m OfRunner.try e = rw e
runner_number k c m OfRunner.reserve e = rw e
runner_number k c m OfRunner.free e = rw e
runner_number k c m OfRunner.enter e = rw e
runner_number k c m OfRunner.leave e = rw e

module _ (k : State) (c : Call) where
  pub ground_number : {m : Mark} {n : ℕ} → Ground k c m n → state_refusal m k c ≡ n
  unfolding refusal_by can_move
  ground_number (Ground.nobody_runs m r e) = runner_number k c m r e
  ground_number (Ground.activate_alive z a) = rw (z, a)
  ground_number (Ground.terminate_terminated a) = rw a
  ground_number (Ground.suspend_terminated a) = rw a
  ground_number (Ground.continue_terminated z a) = rw (z, a)
  ground_number (Ground.suspend_suspended a h) = rw (a, h)
  ground_number (Ground.continue_unheld z a h) = rw (z, a, h)
  ground_number (Ground.release_full i r x n v) =
      rw (r, fails (returnable Request k.locks) (named c) x n (le-ltb (value_at k.locks x) most_value (omega arith)))
  ground_number (Ground.free_unwritten i r x n v) = rw (r, fails (returnable Reserve k.locks) (named c) x n v)
  ground_number (Ground.leave_unread i r x n v) =
      rw (r, fails (returnable Enter k.locks) (named c) x n (le-ltb 0 (bolt_at k.locks x).readers (omega arith)))
  ground_number (Ground.tick_at_last e) = rw (le-ltb k.now.0 last_instant (omega arith))
  ground_number (Ground.sleep_for_nothing e) = rw e
  ground_number (Ground.sleep_too_far n e l) = rw (e, lt-leb n.0 last_instant (omega arith))

-- The ground of a number.
is_idle : (r : Running) → someone r ≡ false → r ≡ None
is_idle None e = refl
is_idle (Some i) e = contra refl e

who_runs : (r : Running) → someone r ≡ true → (i : ℕ) × (r ≡ Some i)
who_runs None e = contra e refl
who_runs (Some i) e = (i, refl)

is_suspended : (h : Hold) → suspended h ≡ true → h ≡ Suspended
is_suspended Unheld e = contra e refl
is_suspended Suspended e = refl
is_suspended (Delayed n) e = contra e refl

is_unheld : (h : Hold) → unheld h ≡ true → h ≡ Unheld
is_unheld Unheld e = refl
is_unheld Suspended e = contra e refl
is_unheld (Delayed n) e = contra e refl

-- A number that a chain of tests gives is that of the first, or comes from the others.
given : {X : Type 0} (b : Bool) (n rest x : ℕ) → unless b n rest ≡ x → (b ≡ false → n ≡ x → X) → (b ≡ true → rest ≡ x → X) → X
given true n rest x e f g = g refl e
given false n rest x e f g = f refl e

-- What a kernel that passes the test has, as far as a ground needs it.
pub record Limited (k : State) (c : Call) (m : Mark) : Type 0 where
  pub instant : k.now.0 ≤ last_instant
  pub values : m ≡ RL → (x : ℕ) → names (named c) x ≡ true → value_at k.locks x ≤ most_value

module _ (k : State) (c : Call) (n : ℕ) (some : n ≢ 0) where
  abbrev t : Task
  t = its_task k c

  as_number : {m : Mark} {a : ℕ} → Ground k c m a → a ≡ n → Ground k c m n
  as_number {m} g e = subst (λ (x : ℕ). Ground k c m x) e g

  none : {X : Type 0} → 0 ≡ n → X
  none e = absurd (some (sym e))

  runs : {m : Mark} → OfRunner m → (rest : ℕ) → unless (someone (runner k)) 8 rest ≡ n → ((i : ℕ) → runner k ≡ Some i → rest ≡ n → Ground k c m n)
      → Ground k c m n
  runs {m} o rest e f =
      given (someone (runner k)) 8 rest n e (λ b z. as_number (Ground.nobody_runs m o (is_idle (runner k) b)) z)
      (λ b z. let (i, r) = who_runs (runner k) b in f i r z)

  pub number_ground : (m : Mark) → Limited k c m → state_refusal m k c ≡ n → Ground k c m n
  unfolding refusal_by can_move
  number_ground DT l e = none e
  number_ground DS l e = none e
  number_ground DB l e = none e
  number_ground IT l e = none e
  number_ground DC l e = none e
  number_ground AC l e =
      given (not (eqb c.head.kind 0) || not t.alive) 9 0 n e
      (λ b z. let (p, q) = neither (not (eqb c.head.kind 0)) _ b in
      as_number (Ground.activate_alive (eqb-true _ _ (not-false _ p)) (not-false _ q)) z)
      (λ b z. none z)
  number_ground TE l e = given t.alive 10 0 n e (λ b z. as_number (Ground.terminate_terminated b) z) (λ b z. none z)
  number_ground SU l e =
      given t.alive 10 _ n e (λ b z. as_number (Ground.suspend_terminated b) z)
      (λ a z. given (not (suspended t.hold)) 11 0 n z
      (λ b y. as_number (Ground.suspend_suspended a (is_suspended t.hold (not-false _ b))) y) (λ b y. none y))
  number_ground PR l e = none e
  number_ground CO l e =
      given (not (eqb c.head.kind 0) || t.alive) 10 _ n e
      (λ b z. let (p, q) = neither (not (eqb c.head.kind 0)) _ b in
      as_number (Ground.continue_terminated (eqb-true _ _ (not-false _ p)) q) z)
      (λ a z. given (not (eqb c.head.kind 0) || not (unheld t.hold)) 12 0 n z
      (λ b y. let (p, q) = neither (not (eqb c.head.kind 0)) _ b in
      let zero = not-false _ p in
      as_number (Ground.continue_unheld (eqb-true _ _ zero) (or_then _ _ a zero) (is_unheld t.hold (not-false _ q))) y)
      (λ b y. none y))
  number_ground EN l e = runs OfRunner.end 0 e (λ i r z. none z)
  number_ground RE l e = runs OfRunner.resume 0 e (λ i r z. none z)
  number_ground RQ l e = runs OfRunner.request 0 e (λ i r z. none z)
  number_ground RL l e =
      runs OfRunner.release _ e
      (λ i r z. given (every (returnable Request k.locks) (named c)) 13 0 n z
      (λ b y. let (x, s, v) = some_fails (returnable Request k.locks) (named c) b in
      let high = ltb-false (value_at k.locks x) most_value v in
      let low = l.values refl x s in
      as_number (Ground.release_full i r x s (omega arith)) y)
      (λ b y. none y))
  number_ground TR l e = runs OfRunner.try 0 e (λ i r z. none z)
  number_ground RS l e = runs OfRunner.reserve 0 e (λ i r z. none z)
  number_ground FR l e =
      runs OfRunner.free _ e
      (λ i r z. given (every (returnable Reserve k.locks) (named c)) 14 0 n z
      (λ b y. let (x, s, v) = some_fails (returnable Reserve k.locks) (named c) b in
      as_number (Ground.free_unwritten i r x s v) y)
      (λ b y. none y))
  number_ground ET l e = runs OfRunner.enter 0 e (λ i r z. none z)
  number_ground LV l e =
      runs OfRunner.leave _ e
      (λ i r z. given (every (returnable Enter k.locks) (named c)) 14 0 n z
      (λ b y. let (x, s, v) = some_fails (returnable Enter k.locks) (named c) b in
      let low = ltb-false 0 (bolt_at k.locks x).readers v in
      as_number (Ground.leave_unread i r x s (omega arith)) y)
      (λ b y. none y))
  number_ground TG l e = none e
  number_ground EI l e = none e
  number_ground XI l e = none e
  number_ground TI l e =
      given (ltb k.now.0 last_instant) 15 0 n e
      (λ b z. let high = ltb-false k.now.0 last_instant b in
      let low = l.instant in
      as_number (Ground.tick_at_last (omega arith)) z)
      (λ b z. none z)
  number_ground SL l e = go (next_event k) refl e
    where
      go : (x : Moment) → next_event k ≡ x → unless (comes_by last_instant x) 17 0 ≡ n → Ground k c SL n
      go None q z = as_number (Ground.sleep_for_nothing q) z
      go (Some x) q z =
          given (leb x.0 last_instant) 17 0 n z
          (λ b y. as_number (Ground.sleep_too_far x q (leb-false x.0 last_instant b)) y) (λ b y. none y)

-- The state gives neither 5 nor 7.
pub record Far (n : ℕ) : Type 0 where
  pub no5 : n ≢ 5
  pub no7 : n ≢ 7

far_unless : (b : Bool) (n rest : ℕ) → Far n → Far rest → Far (unless b n rest)
far_unless true n rest p q = q
far_unless false n rest p q = p

far_unreturnable : (w : Wait) → Far (unreturnable w)
far_unreturnable Nothing = omega arith
far_unreturnable Request = omega arith
far_unreturnable Reserve = omega arith
far_unreturnable Enter = omega arith

pub far_by : (m : Mark) (c : Call) (r : Running) (t : Task) (l : Locks) (n : Instant) (e : Moment) → Far (refusal_by m c r t l n e)
unfolding refusal_by
far_by m c r t l n e =
    let w = given_kind (sort_of m) in
    far_unless (not (needs_runner (sort_of m)) || someone r) 8 _ (omega arith)
    (far_unless (not (is m AC && eqb c.head.kind 0) || not t.alive) 9 _ (omega arith)
    (far_unless (not (is m TE || is m SU || is_continue m c.head) || t.alive) 10 _ (omega arith)
    (far_unless (not (is m SU) || not (suspended t.hold)) 11 _ (omega arith)
    (far_unless (not (is_continue m c.head) || not (unheld t.hold)) 12 _ (omega arith)
    (far_unless (not (waiting w) || every (returnable w l) (named c)) (unreturnable w) _ (far_unreturnable w)
    (far_unless (not (is m TI) || ltb n.0 last_instant) 15 _ (omega arith)
    (far_unless (not (is m SL) || comes_by last_instant e) 17 0 (omega arith) (omega arith))))))))

-- ---- the chain of 2 to 7

module _ (day : ℕ) (n : Counts) (begun : Bool) (c : Call) (timely : (begun && declares c.head.mark) ≡ false) (shaped : shape c ≡ 0) where
  pub after_shape : formal_refusal day n begun c
      ≡ unless (declared_in c.head.mark n c) 5 (first_refusal (times day c.head) (unless (room_for c.head.mark n) 7 0))
  unfolding formal_refusal
  after_shape = rw (timely, shaped)

  formed_call : formed_as (form c.head.mark) c ≡ true
  unfolding shape formed
  formed_call = by_bool (formed_as (form c.head.mark) c) (λ q. q) (λ q. absurd (let z = rw q at shaped in omega arith))

  pub unknown_is : (declared_in c.head.mark n c ≡ false) ↔ Undeclared c.head.mark n c
  unknown_is = undeclared c.head.mark n c formed_call

  pub undeclared_is_5 : Undeclared c.head.mark n c → formal_refusal day n begun c ≡ 5
  undeclared_is_5 x = after_shape ∙ rw (unknown_is.1 x)

  pub full_is_7 : times day c.head ≡ 0 → Full n c.head.mark → formal_refusal day n begun c ≡ 7
  unfolding formal_refusal
  full_is_7 q x = rw (timely, shaped, full_known n c.head.mark c x, q, full_room n c.head.mark x)

pub delayed_is_suspended : DelayedIsSuspended
unfolding refusal_by
delayed_is_suspended k c n a h = rw (a, h)
