-- What a call or declaration that no formal ground refuses has passed, and what it comes to.
use Rattle.std.specs.Prelude.{None, Some}
use mathlib.Core.Path.{◌≡◌, refl, sym, ap, ◌∙◌}
use mathlib.Core.Bool.{true, false}
use mathlib.Core.List.{List}
use Prim.Native.Nat.{ℕ, zero, suc, ◌≤◌, ◌<◌}
use native.Mathlib.Omega.{arith}
use lib.Dec.{leb, ltb}
use borrow.Author.Tests.{leb-true, ltb-true}
use Rattle.layout.specs.Marks.{form}
use Rattle.layout.specs.declared.Call.{Call}
use Rattle.calendar.specs.Moments.{Moment}
use Rattle.layout.specs.declared.Head.{Head}
use Rattle.lists.specs.Lists.{distinct, every}
use Rattle.record.specs.Reading.{call_with}
use Rattle.record.specs.Refusals.{named}
use Rattle.lock.specs.declared.Wait.{Wait}
use Rattle.facts.proofs.Bools.{by_bool, contra, both}
use Rattle.machine.specs.declared.State.{State}
use Rattle.machine.specs.Running.{Running, runner}
use Rattle.machine.specs.declared.Sort.{Sort}
use Rattle.machine.specs.declared.Sort.TheVariants.{Declaration, OneTask, TheRunner, ListAsked, ListGiven, AnInterrupt, EveryTask}
use Rattle.machine.specs.declared.Stepped.{Stepped}
use Rattle.machine.specs.State.{most_tasks, task_at}
use Rattle.machine.specs.NextEvent.{next_event}
use Rattle.machine.specs.Test.{valid}
use Rattle.machine.specs.Sorts.{sort_of, declaring, declares, task_of, runner_at}
use Rattle.machine.specs.Refusals.{list_declared, declared_by, formal_refusal, refusal_by, state_refusal}
use Rattle.machine.specs.Calls.{declaration, arrive, arrival, interrupt_by, work_by}
use Rattle.machine.specs.Step.{answered, declared, finish, or_refuse, carry_out, settle}
use Rattle.machine.proofs.Urgency.{Below, runner_below}
use Rattle.machine.proofs.Passed.{Formal, formal}
use Rattle.machine.proofs.Sorts.{listing, list_mark, list_shape, no_list_law}
use Rattle.kernel_refusals.specs.Inner.{InOrder}
use Rattle.kernel_test.proofs.AskLaws.{list_below}
use Rattle.kernel_refusals.proofs.RefusalLaws.{refusal_by_law}
use Rattle.kernel_test.proofs.SoundLaws.{places_fit, sound}
use Rattle.layout.specs.Fields.{most_numbers}

module _ (day : ℕ) (k : State) (h : Head) (l : List ℕ) where
  abbrev call : Call
  call = call_with h l

  module _ (f : formal_refusal day k.counts k.begun call ≡ 0) where
    pub past : Formal day h.mark k.counts k.begun call
    past = formal day k.counts k.begun call f

    -- ---- the list, if there is one

    declared_list : (s : Sort) → listing s ≡ true → declared_by s k.counts call ≡ true → (w : Wait) × (list_declared k.counts w call ≡ true)
    unfolding declared_by
    declared_list Declaration e d = contra e refl
    declared_list OneTask e d = contra e refl
    declared_list TheRunner e d = contra e refl
    declared_list (ListAsked w b) e d = (w, d)
    declared_list (ListGiven w) e d = (w, d)
    declared_list AnInterrupt e d = contra e refl
    declared_list EveryTask e d = contra e refl

    pub named_once : listing (sort_of h.mark) ≡ true → (1 ≤ h.len) × (h.len ≤ most_numbers) × (distinct (named call) ≡ true)
    named_once e =
        let s = list_shape (form h.mark) call (sym (list_mark h.mark h) ∙ e) past.formed past.listed in
        let b = both (leb 1 h.len) (leb h.len most_numbers) s.0 in
        (leb-true _ _ b.0, leb-true _ _ b.1, s.1)

    pub in_order : valid day k ≡ true → InOrder call
    unfolding distinct every
    in_order v =
        by_bool (listing (sort_of h.mark))
        (λ e.
        let (w, d) = declared_list (sort_of h.mark) e past.known in
        let o = named_once e in
        record { short = o.1; once = o.2; below = list_below day k v w call d })
        (λ e.
        let z = no_list_law (form h.mark) call (sym (list_mark h.mark h) ∙ e) past.formed in
        record { short = omega arith; once = rw z; below = rw z })

    -- ---- whom it is about

    pub place_in : valid day k ≡ true → (s : Sort) → s ≡ sort_of h.mark → task_of s h (runner k) < most_tasks
    unfolding declared_by
    place_in v s q = go s q
      where
        few : k.counts.tasks ≤ most_tasks
        few = places_fit k (sound day k v).waits

        at_runner : (r : Running) → Below k.counts.tasks r → runner_at r < most_tasks
        at_runner None b = omega arith
        at_runner (Some i) b = omega (arith, few, b)

        go : (s : Sort) → s ≡ sort_of h.mark → task_of s h (runner k) < most_tasks
        go Declaration q = at_runner (runner k) (runner_below k)
        go OneTask q = omega (arith, few, ltb-true h.number k.counts.tasks (both (ltb h.number k.counts.tasks) _ (rw (← q) at past.known)).0)
        go TheRunner q = at_runner (runner k) (runner_below k)
        go (ListAsked w b) q = at_runner (runner k) (runner_below k)
        go (ListGiven w) q = at_runner (runner k) (runner_below k)
        go AnInterrupt q = at_runner (runner k) (runner_below k)
        go EveryTask q = at_runner (runner k) (runner_below k)

  -- ---- what it comes to

  refused_as : (n m : ℕ) (s : Stepped) {r : Running} → r ≡ runner k → n ≡ m → (n ≡ 0 → ⊥) → answered k n r ≡ or_refuse k m s
  refused_as zero m s e f z = absurd (z refl)
  refused_as (suc n) m s e f z = ap (answered k (suc n)) e ∙ ap (λ x. or_refuse k x s) f

  -- What the state refuses, seen from the task i that the call is about.
  pub ground : {r : Running} {s : Sort} {i n : ℕ} {m : Moment} → r ≡ runner k → s ≡ sort_of h.mark → i ≡ task_of s h r → m ≡ next_event k
      → n ≡ refusal_by h.mark call r (task_at k.tasks i) k.locks k.now m → n ≡ state_refusal h.mark k call
  ground {r} {s} {m = m} e q p o g =
      g ∙ ap (λ (x : ℕ). refusal_by h.mark call r (task_at k.tasks x) k.locks k.now m) (p ∙ ap (λ (x : Sort). task_of x h r) q)
      ∙ ap (λ (x : Running). refusal_by h.mark call x (task_at k.tasks (task_of (sort_of h.mark) h x)) k.locks k.now m) e
      ∙ ap (λ (x : Moment). refusal_by h.mark call (runner k) (task_at k.tasks (task_of (sort_of h.mark) h (runner k))) k.locks k.now x) o

  pub settled_refused : {n : ℕ} {r : Running} → r ≡ runner k → n ≡ state_refusal h.mark k call → (n ≡ 0 → ⊥) → answered k n r ≡ settle day k call
  unfolding settle
  settled_refused {n = n} e f z = refused_as n _ _ e f z

  declaration_sort : (s : Sort) → declaring s ≡ true → s ≡ Declaration
  declaration_sort Declaration e = refl
  declaration_sort OneTask e = contra e refl
  declaration_sort TheRunner e = contra e refl
  declaration_sort (ListAsked w b) e = contra e refl
  declaration_sort (ListGiven w) e = contra e refl
  declaration_sort AnInterrupt e = contra e refl
  declaration_sort EveryTask e = contra e refl

  pub settled_declared : declares h.mark ≡ true → declared k (declaration h.mark call k) ≡ settle day k call
  unfolding settle carry_out declares
  settled_declared d = let q = declaration_sort (sort_of h.mark) d in rw (d, ← refusal_by_law call (runner k) (task_at k.tasks (task_of (sort_of h.mark) h (runner k))) k.locks k.now (next_event k) h.mark Declaration q)

  pub settled_call : declares h.mark ≡ false → state_refusal h.mark k call ≡ 0 → {s : Sort} → s ≡ sort_of h.mark → finish k (work_by day s k call) ≡ settle day k call
  unfolding settle carry_out
  settled_call d e q = rw (d, e, q)

  -- The state refuses nothing that is about an interrupt.
  pub settled_interrupt : sort_of h.mark ≡ AnInterrupt → finish k (interrupt_by day h.mark k h.number) ≡ settle day k call
  unfolding declares work_by
  settled_interrupt q =
      settled_call (rw q) (sym (refusal_by_law call (runner k) (task_at k.tasks (task_of (sort_of h.mark) h (runner k))) k.locks k.now (next_event k) h.mark AnInterrupt q)) (sym q)

  pub settled_time : sort_of h.mark ≡ EveryTask
      → or_refuse k (state_refusal h.mark k call) (finish k (arrive k (arrival h.mark k))) ≡ settle day k call
  unfolding settle carry_out declares work_by
  settled_time q =
      let out : finish k (arrive k (arrival h.mark k)) ≡ carry_out day k call = rw q in
      ap (or_refuse k (state_refusal h.mark k call)) out
