-- Fresh kernels: nothing declared, or accepted declarations only.
use Rattle.std.specs.Prelude.{Err, Ok, ◌≡◌, Bool, true, false, not, cond, ◌&&◌, ◌||◌, List, [], ◌∷◌, ◌++◌, ℕ, ◌<◌, eqb, length, get_or}
use Rattle.layout.specs.Marks.{is}
use Rattle.record.specs.Reading.{opened, Read}
use Rattle.layout.specs.declared.Mark.TheVariants.{DS}
use Rattle.lock.specs.Locks.{empty_bolt, bolt_at, level}
use Rattle.lock.specs.declared.Wait.TheVariants.{Request}
use Rattle.machine.specs.State.{task_at, enabled_at, fresh_task, nothing}
use Rattle.machine.specs.Test.{kernel_refusal}
use Rattle.machine.specs.Log.{AllOctets, is_declaration, Entry, final, log}
use Rattle.machine.specs.Invariants.{IsDay, Tables}
use Rattle.machine.specs.declared.State.{State}
use Rattle.balance.specs.Counting.{is_accepted}

-- A fresh kernel.
pub record Fresh (day : ℕ) (k : State) : Type 0 where
  pub tables : Tables k
  pub tested : kernel_refusal day k ≡ 0
  pub instant : k.now.0 ≡ 0
  pub unbegun : k.begun ≡ false
  pub tasks : (i : ℕ) → i < k.counts.tasks → task_at k.tasks i ≡ fresh_task (task_at k.tasks i).declared
  pub bolts : (b : ℕ) → b < k.counts.bolts → bolt_at k.locks b ≡ empty_bolt
  pub enabled : (i : ℕ) → i < k.counts.interrupts → enabled_at k i ≡ false

abbrev pub accepted_declaration : Entry → Bool
accepted_declaration e = is_accepted e.answer && is_declaration (opened e.bytes).answer

abbrev pub accepted_call : Entry → Bool
accepted_call e = is_accepted e.answer && not (is_declaration (opened e.bytes).answer)

-- Refused with 1 or 16.
abbrev pub turned_away : Entry → Bool
turned_away e = eqb e.answer.number 1 || eqb e.answer.number 16

-- No entry passes a test.
unfoldable pub without : (Entry → Bool) → List Entry → Bool
without f [] = true
without f (e ∷ es) = not (f e) && without f es

-- Accepted declarations only, with refused records among them, leave a fresh kernel.
abbrev pub DeclaredIsFresh : Type 0
DeclaredIsFresh =
    (day : ℕ) → IsDay day → (rs : List (List ℕ)) → AllOctets rs → without accepted_call (log day nothing rs) ≡ true
    → Fresh day (final day nothing rs)

-- ---- presets

-- The first time of a DS.
abbrev pub preset_in : Read → List ℕ
preset_in (Err n) = []
preset_in (Ok h) = cond (is h.mark DS) (h.first ∷ []) []

-- Those of the accepted DS of a log, in order.
unfoldable pub presets : List Entry → List ℕ
presets [] = []
presets (e ∷ es) = cond (is_accepted e.answer) (preset_in (opened e.bytes).answer) [] ++ presets es

-- There are as many semaphores as presets, and each has its own.
pub record Preset (vs : List ℕ) (k : State) : Type 0 where
  pub count : k.counts.semaphores ≡ length vs
  pub value : (s : ℕ) → s < k.counts.semaphores → level Request k.locks s ≡ get_or vs s 0

-- In the fresh kernel each semaphore has the preset of the DS that declared it.
abbrev pub PresetsAreKept : Type 0
PresetsAreKept =
    (day : ℕ) → IsDay day → (rs : List (List ℕ)) → AllOctets rs → without accepted_call (log day nothing rs) ≡ true
    → Preset (presets (log day nothing rs)) (final day nothing rs)
