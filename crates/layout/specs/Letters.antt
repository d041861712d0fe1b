-- The letters of the marks, as document 01 spells them. Proved in proofs/ByteLaws.antt.
use Rattle.std.specs.Prelude.{◌≡◌, List, [], ◌∷◌, ℕ, replicate}
use Prim.Native.Char.{code as codePoint}
use Prim.Native.String.{String, [] as none, ◌∷◌ as ◌and◌}
use Rattle.layout.specs.declared.Mark.TheVariants.{DT, DS, DB, IT, DC, AC, TE, SU, PR, CO, EN, RE, RQ, RL, TR, RS, FR, ET, LV, TG, EI, XI, TI, SL}
use Rattle.layout.specs.Marks.{code}
use Rattle.layout.specs.Fields.{letters}

-- The bytes of a text.
unfoldable pub ascii : String → List ℕ
ascii none = []
ascii (c and s) = codePoint c ∷ ascii s

-- So many zero bytes.
abbrev pub zeros : ℕ → List ℕ
zeros n = replicate n 0

-- What a mark is called, and the two letters that it stands with in bytes 0 and 1.
pub record Letters : Type 0 where
  -- Declarations.
  pub task : code DT ≡ letters (ascii "DT")
  pub semaphore : code DS ≡ letters (ascii "DS")
  pub bolt : code DB ≡ letters (ascii "DB")
  pub interrupt : code IT ≡ letters (ascii "IT")
  pub clock : code DC ≡ letters (ascii "DC")
  -- Tasks.
  pub activate : code AC ≡ letters (ascii "AC")
  pub terminate : code TE ≡ letters (ascii "TE")
  pub suspend : code SU ≡ letters (ascii "SU")
  pub prevent : code PR ≡ letters (ascii "PR")
  pub continue : code CO ≡ letters (ascii "CO")
  pub end : code EN ≡ letters (ascii "EN")
  pub resume : code RE ≡ letters (ascii "RE")
  -- Semaphores and bolts.
  pub request : code RQ ≡ letters (ascii "RQ")
  pub release : code RL ≡ letters (ascii "RL")
  pub try : code TR ≡ letters (ascii "TR")
  pub reserve : code RS ≡ letters (ascii "RS")
  pub free : code FR ≡ letters (ascii "FR")
  pub enter : code ET ≡ letters (ascii "ET")
  pub leave : code LV ≡ letters (ascii "LV")
  -- Interrupts and time.
  pub trigger : code TG ≡ letters (ascii "TG")
  pub enable : code EI ≡ letters (ascii "EI")
  pub disable : code XI ≡ letters (ascii "XI")
  pub tick : code TI ≡ letters (ascii "TI")
  pub sleep : code SL ≡ letters (ascii "SL")
