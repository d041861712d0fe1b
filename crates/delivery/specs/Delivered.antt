-- The balance of what the code hands back: `Kernel::fresh`, and then `Kernel::step` or a method, one after the other.
-- What the code promises is taken from the contracts, as a caller learns it. Proved in proofs/Delivered.antt.
use Rattle.std.specs.Prelude.{◌≡◌, true, List, [], ◌∷◌, ◌++◌, ◌⊎◌, ℕ}
use base.Fml.{Lft}
use Rattle.std.specs.Borrow.{Bor}
use Rattle.calendar.specs.Limits.{day_length}
use Rattle.layout.specs.Fields.{FourPlaces, bytes_of}
use Rattle.layout.specs.declared.Call.{Call}
use Rattle.machine.specs.Test.{kernel_refusal}
use Rattle.machine.specs.Log.{AllOctets, Entry, final, log}
use Rattle.balance.specs.Fresh.{Fresh, accepted_declaration, accepted_call, turned_away, without, presets, Preset}
use Rattle.balance.specs.Balance.{Sums, RightStep}
use Rattle.kernel.specs.declared.Kernel.{Kernel}
use Rattle.kernel.specs.declared.Reply.{Reply}
use Rattle.kernel.proofs.Kernel.fresh.Reads as fresh
use Rattle.kernel.proofs.Kernel.step.Reads as step
use Rattle.delivery.specs.Methods.{Method}

-- ---- what the contracts promise

-- What `Kernel::fresh` promises of the kernel that it hands back.
abbrev pub HandedFresh : Kernel → Type 0
HandedFresh a = fresh.Learnt tt tt a tt

-- One use: the record handed over, or that of the method's call, and the reply handed back.
pub record Use : Type 0 where
  pub bytes : List ℕ
  pub reply : Reply

-- By `Kernel::step` on kernel a, for some slice that refers to the record.
pub record ByStep (a : Kernel) (u : Use) : Type 0 where
  pub lifetime : Lft
  pub slice : Bor (List ℕ)
  pub refers : slice.now ≡ u.bytes
  pub learnt : step.Learnt (lifetime, tt) (a, (slice, tt)) u.reply (a, (slice, tt))

-- By a method of kernel a, for the record of the call that it stands for. A list has four places, as in the code.
pub record ByMethod (a : Kernel) (u : Use) : Type 0 where
  pub call : Call
  pub four : FourPlaces call
  pub stands : bytes_of call ≡ u.bytes
  pub learnt : Method a call u.reply

-- What the contracts promise of a use on kernel a.
abbrev pub Promised : Kernel → Use → Type 0
Promised a u = ByStep a u ⊎ ByMethod a u

-- One after the other: each use is on the kernel that the one before handed back.
unfoldable pub Handed : Kernel → List Use → Type 0
Handed a [] = Unit {0}
Handed a (u ∷ us) = Promised a u × Handed u.reply.kernel us

-- ---- what was handed over, and what came back

unfoldable pub records : List Use → List (List ℕ)
records [] = []
records (u ∷ us) = u.bytes ∷ records us

-- Any records can be handed over, to any kernel.
abbrev pub AnyRecords : Type 0
AnyRecords = (rs : List (List ℕ)) (a : Kernel) → (us : List Use) × Handed a us × (records us ≡ rs)

-- The records with the code's answers.
abbrev pub entry : Use → Entry
entry u = record { bytes = u.bytes; answer = u.reply.answer }

unfoldable pub answers : List Use → List Entry
answers [] = []
answers (u ∷ us) = entry u ∷ answers us

-- The kernel that came back last.
unfoldable pub last : Kernel → List Use → Kernel
last a [] = a
last a (u ∷ us) = last u.reply.kernel us

-- Every answer and the last kernel are the machine's for the same records.
pub record AsMachine (a : Kernel) (us : List Use) : Type 0 where
  pub entries : answers us ≡ log day_length a.state (records us)
  pub state : (last a us).state ≡ final day_length a.state (records us)

-- So it is for every kernel and any uses.
abbrev pub CodeIsMachine : Type 0
CodeIsMachine = (a : Kernel) (us : List Use) → Handed a us → AsMachine a us

-- ---- the balance

unfoldable pub AtEachUse : Kernel → List Use → Type 0
AtEachUse a [] = Unit {0}
AtEachUse a (u ∷ us) =
    RightStep day_length a.state u.bytes u.reply.answer u.reply.kernel.state × AtEachUse u.reply.kernel us

pub record CodeBalanced (a : Kernel) (us : List Use) : Type 0 where
  pub machine : AsMachine a us
  pub sums : Sums a.state (answers us) (last a us).state
  pub each : AtEachUse a us
  pub last_tested : kernel_refusal day_length (last a us).state ≡ 0

-- From any kernel that is fresh, without an accepted declaration.
abbrev pub CodeBalances : Type 0
CodeBalances =
    (a : Kernel) → Fresh day_length a.state → (us : List Use) → Handed a us → AllOctets (records us)
    → without accepted_declaration (answers us) ≡ true → CodeBalanced a us

-- A list of uses in two parts: the first without an accepted call, the second without an accepted declaration.
pub record Delivered (a : Kernel) (us : List Use) : Type 0 where
  pub declaring : List Use
  pub working : List Use
  pub parts : us ≡ declaring ++ working
  pub no_call : without accepted_call (answers declaring) ≡ true
  pub no_declaration : without accepted_declaration (answers working) ≡ true
  -- no use is refused with 1 or 16
  pub never_turned_away : without turned_away (answers us) ≡ true
  pub machine : AsMachine a us
  pub fresh : Fresh day_length (last a declaring).state
  pub preset : Preset (presets (answers declaring)) (last a declaring).state
  pub balanced : CodeBalanced (last a declaring) working

-- From what `Kernel::fresh` hands back, whatever the records.
abbrev pub FreshDelivers : Type 0
FreshDelivers = (a : Kernel) → HandedFresh a → (us : List Use) → Handed a us → AllOctets (records us) → Delivered a us
