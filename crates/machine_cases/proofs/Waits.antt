-- Long waits of a kernel with one task: what its ticks answer, and where they lead.
use Rattle.std.specs.Prelude.{None, Option, Some}
use mathlib.Core.Path.{◌≡◌, refl, ◌∙◌}
use mathlib.Core.Bool.{Bool, true, false, cond}
use mathlib.Core.List.{List, [], ◌∷◌, ◌++◌, map, map-append}
use Prim.Native.Nat.{ℕ, zero, suc, ◌+◌, ◌<◌, ◌≤◌}
use native.Mathlib.Nat.{add-zero}
use native.Mathlib.Omega.{arith}
use lib.ListN.{length, replicate}
use Rattle.layout.specs.Fields.{no_list}
use Rattle.calendar.specs.Limits.{day_length, last_instant}
use Rattle.calendar.specs.Times.{instant}
use Rattle.lock.specs.Locks.{empty_bolt}
use Rattle.lock.specs.declared.Wait.TheVariants.{Nothing}
use Rattle.schedule.specs.Alarms.{no_alarm}
use Rattle.schedule.specs.Coming.{next_of}
use Rattle.schedule.specs.declared.Schedule.{Schedule}
use Rattle.task.specs.Coming.{comes}
use Rattle.task.specs.State.{runnable}
use Rattle.task.specs.declared.Hold.TheVariants.{Unheld}
use Rattle.task.specs.declared.Task.{Task}
use Rattle.machine.specs.declared.State.{State}
use Rattle.machine.specs.declared.Answer.{Answer}
use Rattle.machine.specs.State.{most_tasks, most_semaphores, most_bolts, most_interrupts, vacant, nothing}
use Rattle.machine.specs.Running.{most_urgent, running_of, runner}
use Rattle.machine.specs.Test.{kernel_refusal}
use Rattle.machine.specs.Step.{step}
use Rattle.machine.specs.Log.{log}
use Rattle.machine.specs.Scripts.{row, one_tick}
use Rattle.machine.specs.Quiet.{Quiet, later, quiet_tick}
use Rattle.machine_cases.specs.Marked.{answers, after, quiet}
use Rattle.machine.proofs.Quiet.{ticks_are_quiet}
use Rattle.machine.proofs.Rows.{row_split, map_row, log_append}

-- The answers from a kernel on.
abbrev pub from : State → List (List ℕ) → List Answer
from k rs = map (λ e. e.answer) (log day_length k rs)

-- The answers to two scripts, one after the other.
pub answers_append : (a b : List (List ℕ)) → answers (a ++ b) ≡ answers a ++ from (after a) b
answers_append a b = rw (log_append day_length nothing a b, map-append)

module _ (d : ℕ) (k : State) (room : length k.tasks ≡ most_tasks) (v : kernel_refusal day_length k ≡ 0) (q : Quiet d k) (l : k.now.0 + d ≤ last_instant) where
  pub quiet_answers : from k (row d one_tick) ≡ row d (quiet (runner k))
  quiet_answers =
      let r = ticks_are_quiet day_length d k room v q l in
      rw r.answers (map_row (λ e. e.answer) d (quiet_tick k))

  -- d quiet ticks, and what comes after them.
  pub quiet_then : (rest : List (List ℕ)) → from k (row d one_tick ++ rest) ≡ row d (quiet (runner k)) ++ from (later d k) rest
  quiet_then rest =
      let r = ticks_are_quiet day_length d k room v q l in
      rw (log_append day_length k (row d one_tick) rest, map-append, quiet_answers, r.state)

-- ---- a kernel with one task

-- A task of priority 5 that is not held and waits for nothing.
abbrev pub only : Bool → Option ℕ → Schedule → Task
only alive kept s =
    record {
      declared = 5;
      current = 5;
      alive = alive;
      kept = kept;
      wait = Nothing;
      len = 0;
      list = no_list;
      given = 0;
      resumed = false;
      hold = Unheld;
      schedule = s;
      continuation = no_alarm;
    }

-- A kernel whose one declared task is t, after some accepted call.
unfoldable pub lone : ℕ → ℕ → Task → State
lone clock now t =
    record {
      tasks = t ∷ replicate 31 vacant;
      places = replicate 32 0;
      locks = record { semaphores = replicate most_semaphores 0; bolts = replicate most_bolts empty_bolt };
      enabled = replicate most_interrupts false;
      counts = record { tasks = 1; semaphores = 0; bolts = 0; interrupts = 0 };
      clock = clock;
      now = instant now;
      begun = true;
      file = record { running = cond (runnable t) (Some 0) None; next = next_of t.schedule.alarm };
    }

pub asleep : (c n : ℕ) (kept : Option ℕ) (s : Schedule) → runner (lone c n (only false kept s)) ≡ None
unfolding lone running_of most_urgent
asleep c n kept s = refl

pub awake : (c n : ℕ) (kept : Option ℕ) (s : Schedule) → runner (lone c n (only true kept s)) ≡ Some 0
unfolding lone running_of most_urgent
awake c n kept s = refl

-- Nothing comes for a task at an instant past n and up to n + d.
abbrev pub Calm : ℕ → ℕ → Task → Type 0
Calm n d t = (x : ℕ) → n < x → x ≤ n + d → comes (instant x) t ≡ false

pub lone_quiet : (c n d : ℕ) (t : Task) → Calm n d t → Quiet d (lone c n t)
unfolding lone
lone_quiet c n d t q zero l x a b = q x a b
lone_quiet c n d t q (suc i) l x a b = absurd (omega arith)

lone_later : (c n d : ℕ) (t : Task) → later d (lone c n t) ≡ lone c (n + d) t
unfolding lone later
lone_later c n zero t = rw add-zero
lone_later c n (suc d) t = refl

module _ (c n d : ℕ) (t : Task) (v : kernel_refusal day_length (lone c n t) ≡ 0) (q : Calm n d t) (l : n + d ≤ last_instant) where
  pub lone_answers : from (lone c n t) (row d one_tick) ≡ row d (quiet (runner (lone c n t)))
  unfolding lone
  lone_answers = quiet_answers d (lone c n t) refl v (lone_quiet c n d t q) l

  -- d quiet ticks, one that answers a and leaves k, and m more.
  pub lone_due : (k : State) (a : Answer) → step day_length (lone c (n + d) t) one_tick ≡ record { state = k; answer = a }
      → (m : ℕ)
      → from (lone c n t) (row (d + suc m) one_tick) ≡ row d (quiet (runner (lone c n t))) ++ (a ∷ from k (row m one_tick))
  unfolding lone log
  lone_due k a s m =
      rw (row_split d m one_tick)
      (quiet_then d (lone c n t) refl v (lone_quiet c n d t q) l (one_tick ∷ row m one_tick) ∙ rw (lone_later c n d t, s))
