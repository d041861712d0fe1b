-- Ticks and sleeps arrive, and each declared task has its turn then.
use mathlib.Core.Path.{◌≡◌, refl, sym, ap, ◌∙◌}
use mathlib.Core.Logic.{⊎_elim, inl, inr}
use mathlib.Core.List.{List}
use Prim.Native.Nat.{ℕ, ◌<◌}
use Rattle.calendar.specs.declared.Instant.{Instant}
use Rattle.layout.specs.Marks.{among}
use Rattle.layout.specs.Fields.{call_of, head_of, list_of, bytes_of}
use Rattle.layout.specs.declared.Mark.TheVariants.{TI, SL}
use Rattle.lock.specs.Locks.{bit}
use Rattle.record.specs.Reading.{accepted, opened}
use Rattle.task.specs.Turns.{tick_turn}
use Rattle.task.specs.declared.Turn.{Turn}
use Rattle.machine.specs.declared.State.{State}
use Rattle.machine.specs.declared.Sort.TheVariants.{EveryTask}
use Rattle.machine.specs.declared.Stepped.{Stepped}
use Rattle.machine.specs.Sets.{has}
use Rattle.machine.specs.State.{task_at}
use Rattle.machine.specs.Work.{every_turn}
use Rattle.machine.specs.Sorts.{sort_of}
use Rattle.machine.specs.Calls.{arrive, arrival, work_by}
use Rattle.machine.specs.Step.{finish, step}
use Rattle.machine.specs.Scripts.{one_tick, sleep}
use Rattle.machine.specs.Continuing.{SameButWait, task_after, Arrives, TickArrives, SleepArrives}
use Rattle.machine.proofs.Filing.{taken_valid, taken_next}
use Rattle.machine.proofs.Works.{set_at}
use Rattle.machine.proofs.Sleeping.{sleep_to, tick_to}
use Rattle.machine.proofs.Accepted.{finish_keeps, table, step_work, every_at}

-- ---- where they lead

time_opens : (opened one_tick ≡ accepted (call_of TI one_tick)) × (opened sleep ≡ accepted (call_of SL sleep))
unfolding opened among head_of list_of bytes_of
time_opens = (refl, refl)

-- What arrives at n is at n.
arrived : (k : State) (n : Instant) → (finish k (arrive k n)).state.now ≡ n
unfolding finish arrive every_turn
arrived k n = refl

pub tick_arrives : TickArrives
unfolding head_of
tick_arrives day k x room v e l =
    let s = tick_to day k x room v e l in
    record {
      call = call_of TI one_tick;
      accepts = record { tested = taken_valid day k v; opens = time_opens.0; number = rw s (unfold finish in refl) };
      time = inl refl;
      now = rw s (arrived k x);
    }

pub sleep_arrives : SleepArrives
unfolding head_of
sleep_arrives day k x room v e l =
    let s = sleep_to day k v x (sym (taken_next day k v) ∙ e) l in
    record {
      call = call_of SL sleep;
      accepts = record { tested = taken_valid day k v; opens = time_opens.1; number = rw s (unfold finish in refl) };
      time = inr refl;
      now = rw s (arrived k x);
    }

-- ---- what they do

module _ (day : ℕ) (k : State) (s : List ℕ) (x : Instant) (a : Arrives day k s x) where
  about_all : sort_of a.call.head.mark ≡ EveryTask
  about_all = ⊎_elim (λ e. ap sort_of e) (λ e. ap sort_of e) a.time

  pub arrives_by : step day k s ≡ finish k (arrive k x)
  unfolding work_by
  arrives_by =
      let n = arrival a.call.head.mark k in
      let w : step day k s ≡ finish k (arrive k n) = step_work day k s a.call a.accepts EveryTask about_all refl in
      let here : n ≡ x = sym (arrived k n) ∙ ap (λ (z : Stepped). z.state.now) (sym w) ∙ a.now in
      w ∙ ap (λ (y : Instant). finish k (arrive k y)) here

  -- The turn of each declared task,
  pub arrives_turn : (i : ℕ) → i < k.counts.tasks → SameButWait (tick_turn x (task_at k.tasks i)).task (task_after day k s i)
  unfolding arrive
  arrives_turn i l = rw arrives_by (rw (every_at k x (tick_turn x) (table day k a.accepts.tested) i l) at (finish_keeps k (arrive k x) i))

  -- and the due set.
  pub arrives_due : (i : ℕ) → i < k.counts.tasks
      → has i (step day k s).answer.sets.due ≡ bit (tick_turn x (task_at k.tasks i)).marks.due
  unfolding finish arrive every_turn
  arrives_due i l =
      rw arrives_by (set_at k.counts.tasks (tick_turn x) k.tasks (table day k a.accepts.tested) (λ (u : Turn). u.marks.due) i l)
