-- What is on file is what the rules give.
use mathlib.Core.Path.{◌≡◌, refl, sym}
use mathlib.Core.Logic.{◌≢◌}
use Prim.Native.Nat.{ℕ}
use Rattle.facts.proofs.Bools.{contra}
use Rattle.layout.specs.declared.Mark.{Mark}
use Rattle.layout.specs.declared.Call.{Call}
use Rattle.machine.specs.declared.State.{State}
use Rattle.machine.specs.Running.{Running, runner}
use Rattle.machine.specs.declared.Stepped.{Stepped}
use Rattle.machine.specs.NextEvent.{file_of}
use Rattle.machine.specs.Test.{kernel_refusal}
use Rattle.machine.specs.Work.{Work}
use Rattle.machine.specs.Calls.{add_semaphore, add_bolt, add_interrupt, declaration}
use Rattle.machine.specs.Step.{answered, finish, declared, carry_out}
use Rattle.machine.specs.Promises.{StepFiles, CarryFiles, FiledIsFirst, AnswersFiled}
use Rattle.machine.proofs.Filing.{taken_valid, taken_filed, taken_runner}
use Rattle.machine.proofs.Urgency.{runner_first}
use Rattle.machine.proofs.Cases.{out_cases, declaration_cases, carry_cases, step_cases}
use Rattle.machine.proofs.Answers.{file_added, tested_bytes}

-- ---- what is carried out files it

abbrev Files : State → Type 0
Files k = k.file ≡ file_of k

-- A declaration leaves who runs and what comes next.
pub declaration_file : (k : State) (m : Mark) (c : Call) → file_of (declaration m c k) ≡ file_of k
declaration_file k m c =
    declaration_cases m c k (λ d. file_of d ≡ file_of k) (λ e. file_added k _) (λ e. unfold add_semaphore in refl) (λ e. unfold add_bolt in refl)
    (λ e. unfold add_interrupt in refl) (λ e. refl) refl

declared_files : (k : State) (m : Mark) (c : Call) → Files (declared k (declaration m c k)).state
unfolding declared
declared_files k m c = sym (declaration_file k m c)

finish_files : (k : State) (w : Work) → Files (finish k w).state
unfolding finish
finish_files k w = refl

pub out_files : (day : ℕ) (k : State) (c : Call) → Files (carry_out day k c).state
out_files day k c =
    out_cases day k c (λ z. Files z.state) (λ e. declared_files k c.head.mark c) (λ e. finish_files k _)

-- ---- every step

abbrev Settled : Stepped → Type 0
Settled z = z.answer.number ≢ 1 → z.answer.number ≢ 16 → Files z.state

refuse_files : (k : State) (n : ℕ) (r : Running) → Files k → Settled (answered k n r)
unfolding answered
refuse_files k n r e a b = e

module _ (day : ℕ) (k : State) where
  refuse_1 : (r : Running) → Settled (answered k 1 r)
  unfolding answered
  refuse_1 r a b = absurd (a refl)

  refuse_16 : (r : Running) → Settled (answered k 16 r)
  unfolding answered
  refuse_16 r a b = absurd (b refl)

  refuse_late : kernel_refusal day k ≡ 0 → (n : ℕ) → Settled (answered k n (runner k))
  refuse_late t n = refuse_files k n (runner k) (taken_filed day k t)

pub step_files : StepFiles
step_files day k s =
    step_cases day k Settled (λ v. refuse_1 day k _) (λ v m. refuse_16 day k _) (λ t n p q. refuse_late day k t n)
    (λ t c e a b. out_files day k c) s

pub carry_files : CarryFiles
carry_files day k c =
    carry_cases day k Settled (λ v. refuse_1 day k _) (λ v m. refuse_16 day k _) (λ t n p q. refuse_late day k t n)
    (λ t c e a b. out_files day k c) c

-- ---- what is on file

pub filed_first : FiledIsFirst
filed_first day k t = rw (taken_runner day k t) (runner_first k (tested_bytes day k (taken_valid day k t)))

-- An answer names what is on file.
abbrev Same : Stepped → Type 0
Same z = z.answer.running ≡ z.state.file.running

refuse_same : (k : State) (n : ℕ) → k.file.running ≡ runner k → Same (answered k n (runner k))
unfolding answered
refuse_same k n e = sym e

out_same : (day : ℕ) (k : State) (c : Call) → Same (carry_out day k c)
unfolding declared finish
out_same day k c = out_cases day k c Same (λ e. refl) (λ e. refl)

pub answers_filed : AnswersFiled
answers_filed day k s t =
    step_cases day k Same (λ e. contra (taken_valid day k t) e) (λ v m. absurd (m (taken_filed day k t)))
    (λ e n p q. refuse_same k n (taken_runner day k t)) (λ e c r. out_same day k c) s
