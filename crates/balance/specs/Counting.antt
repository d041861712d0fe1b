-- What document 01's balance counts over a log of records and answers.
use Rattle.std.specs.Prelude.{Err, None, Ok, Some, ◌≡◌, Bool, true, false, not, cond, ◌&&◌, ◌||◌, List, [], ◌∷◌, ℕ, ◌+◌, ◌*◌, ◌<◌, eqb}
use Rattle.lists.specs.Lists.{names}
use Rattle.record.specs.Refusals.{named}
use Rattle.record.specs.Reading.{call_with, opened, Read}
use Rattle.layout.specs.declared.Mark.{Mark}
use Rattle.lock.specs.Locks.{bit, waiting, same_kind}
use Rattle.lock.specs.declared.Wait.{Wait}
use Rattle.lock.specs.declared.Wait.TheVariants.{Nothing}
use Rattle.machine.specs.Sets.{Set, has, members}
use Rattle.machine.specs.Sums.{sum_below}
use Rattle.machine.specs.Sorts.{sort_of, asked_kind, staying, given_kind}
use Rattle.machine.specs.Log.{Entry}
use Rattle.machine.specs.declared.Answer.{Answer}
use Rattle.machine.specs.Running.{Running}

-- How many answers have task i in a set.
unfoldable pub count : Set → ℕ → List Entry → ℕ
count x i [] = 0
count x i (e ∷ es) = has i (members x e.answer.sets) + count x i es

abbrev pub is_accepted : Answer → Bool
is_accepted a = eqb a.number 0

-- ---- lists that calls name

-- What a mark asks for.
unfoldable pub asks : Mark → Wait
asks m = asked_kind (sort_of m)

-- What a mark gives back.
unfoldable pub gives : Mark → Wait
gives m = given_kind (sort_of m)

-- A kind of locks and the numbers named.
pub record Named : Type 0 where
  pub kind : Wait
  pub list : List ℕ

abbrev pub no_names : Named
no_names = record { kind = Nothing; list = [] }

abbrev pub names_in : (Mark → Wait) → Read → List ℕ → Named
names_in f (Err n) l = no_names
names_in f (Ok h) l = record { kind = f h.mark; list = named (call_with h l) }

-- What a record names, by what its mark asks for or gives back.
unfoldable pub names_of : (Mark → Wait) → List ℕ → Named
names_of f bytes = names_in f (opened bytes).answer (opened bytes).list

-- 1 where a list of the kind v names x.
abbrev pub counts : Wait → ℕ → Named → ℕ
counts v x n = bit (same_kind v n.kind && names n.list x)

-- ---- releases, frees and leaves

-- The accepted RL (v is Request), FR (Reserve) or LV (Enter) that name x.
unfoldable pub returned : Wait → ℕ → List Entry → ℕ
returned v x [] = 0
returned v x (e ∷ es) = bit (is_accepted e.answer) * counts v x (names_of gives e.bytes) + returned v x es

-- ---- grants, reserves and entries

-- Each task's last accepted RQ, TR, RS or ET.
abbrev pub Asking : Type 0
Asking = ℕ → Named

abbrev pub issued_by : Running → Named → Asking → Asking
issued_by None n last i = last i
issued_by (Some j) n last i = cond (eqb i j) n (last i)

-- After an answer: an accepted asking call belongs to the running task of the answer before.
unfoldable pub asked_after : Running → Entry → Asking → Asking
asked_after before e last =
    cond (is_accepted e.answer && waiting (names_of asks e.bytes).kind) (issued_by before (names_of asks e.bytes) last) last

-- The grants of x in an answer of n tasks: a granted mark counts for what its task last asked for.
unfoldable pub grants_in : ℕ → Wait → ℕ → Asking → ℕ → ℕ
grants_in n v x last set = sum_below n (λ i. has i set * counts v x (last i))

-- The grants of x over a log, after an answer with the running task before.
unfoldable pub grants : ℕ → Wait → ℕ → Running → Asking → List Entry → ℕ
grants n v x before last [] = 0
grants n v x before last (e ∷ es) =
    grants_in n v x (asked_after before e last) e.answer.sets.granted
    + grants n v x e.answer.running (asked_after before e last) es

-- Nobody runs and nobody has asked before the first record.
abbrev pub granted : ℕ → Wait → ℕ → List Entry → ℕ
granted n v x es = grants n v x None (λ i. no_names) es

-- ---- open askings

-- Which tasks have an asking open: made by an accepted call, and neither granted nor ended since.
abbrev pub Open : Type 0
Open = ℕ → Bool

abbrev pub none_open : Open
none_open i = false

abbrev pub is_issuer : Running → ℕ → Bool
is_issuer None i = false
is_issuer (Some j) i = eqb i j

-- An asking stays open after its own answer, but for a TRY.
abbrev pub stays : Read → Bool
stays (Err n) = true
stays (Ok h) = staying (sort_of h.mark)

-- Task i issued the record of e, an accepted RQ, TR, RS or ET.
unfoldable pub asks_now : Running → Entry → ℕ → Bool
asks_now before e i = is_accepted e.answer && waiting (names_of asks e.bytes).kind && is_issuer before i

abbrev pub is_in : ℕ → ℕ → Bool
is_in set i = eqb (has i set) 1

-- Open where the grants of an answer are made: open before and not ended in it, or asked for with this record.
unfoldable pub open_at : Running → Entry → Open → Open
open_at before e was i = (was i && not (is_in e.answer.sets.ended i)) || asks_now before e i

-- Open after an answer. A TRY is open in its own answer only.
unfoldable pub open_after : Running → Entry → Open → Open
open_after before e was i =
    ((was i && not (is_in e.answer.sets.ended i)) || (asks_now before e i && stays (opened e.bytes).answer))
    && not (is_in e.answer.sets.granted i)

-- Each granted mark of n tasks belongs to an open asking: over a log, after an answer with the running task before.
unfoldable pub GrantsOpen : ℕ → Running → Open → List Entry → Type 0
GrantsOpen n before was [] = Unit {0}
GrantsOpen n before was (e ∷ es) =
    ((i : ℕ) → i < n → has i e.answer.sets.granted ≡ 1 → open_at before e was i ≡ true)
    × GrantsOpen n e.answer.running (open_after before e was) es

-- What is open after a log.
unfoldable pub open_from : Running → Open → List Entry → Open
open_from before was [] = was
open_from before was (e ∷ es) = open_from e.answer.running (open_after before e was) es
