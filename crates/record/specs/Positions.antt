-- Which of the 24 bytes a record uses, by number (document 01, "Records" and "Start kinds"; document 02, request 1).
-- Proved in proofs/FigureLaws.antt and proofs/PositionLaws.antt.
use Rattle.std.specs.Prelude.{◌≡◌, Bool, true, false, List, [], ◌∷◌, ◌++◌, map, ℕ, suc, ◌<◌, length, replicate}
use Rattle.layout.specs.declared.Mark.{Mark}
use Rattle.layout.specs.declared.Mark.TheVariants.{DT, DS, DB, IT, DC, AC, TE, SU, PR, CO, EN, RE, RQ, RL, TR, RS, FR, ET, LV, TG, EI, XI, TI, SL}
use Rattle.layout.specs.declared.Head.{Head}
use Rattle.layout.specs.Marks.{code, form}
use Rattle.layout.specs.Fields.{record_length, byte, letters}
use Rattle.lists.specs.Lists.{names}
use Rattle.record.specs.Refusals.{uses}
use Rattle.record.specs.Stretches.{used_bytes}
use Rattle.record.specs.Reading.{number_of, reading}

-- Where true stands, counted from i.
unfoldable pub places_from : ℕ → List Bool → List ℕ
places_from i [] = []
places_from i (true ∷ l) = i ∷ places_from (suc i) l
places_from i (false ∷ l) = places_from (suc i) l

-- A head with these three fields and no other.
abbrev pub head_with : Mark → ℕ → ℕ → ℕ → Head
head_with m len kind endkind =
    record {
      mark = m;
      number = 0;
      priority = 0;
      len = len;
      kind = kind;
      interrupt = 0;
      endkind = endkind;
      first = 0;
      period = 0;
      endtime = 0;
    }

-- The numbers of the bytes that a record uses with this mark, list length, start kind and end kind.
unfoldable pub bytes_used : Mark → ℕ → ℕ → ℕ → List ℕ
bytes_used m len kind endkind = places_from 0 (used_bytes (uses (form m) (head_with m len kind endkind)) len)

-- Each of the marks uses these bytes.
abbrev pub AllUse : List Mark → ℕ → ℕ → ℕ → List ℕ → Type 0
AllUse ms len kind endkind places = map (λ m. bytes_used m len kind endkind) ms ≡ replicate (length ms) places

-- The marks that take a list.
abbrev pub list_marks : List Mark
list_marks = RQ ∷ RL ∷ TR ∷ RS ∷ FR ∷ ET ∷ LV ∷ []

pub record BytesByMark : Type 0 where
  -- A mark without fields.
  pub bare : (l k e : ℕ) → AllUse (DB ∷ IT ∷ EN ∷ TI ∷ SL ∷ []) l k e (0 ∷ 1 ∷ [])
  -- A task or an interrupt, and no priority.
  pub number : (l k e : ℕ) → AllUse (TE ∷ SU ∷ PR ∷ TG ∷ EI ∷ XI ∷ []) l k e (0 ∷ 1 ∷ 2 ∷ [])
  -- A declared priority.
  pub priority : (l k e : ℕ) → AllUse (DT ∷ []) l k e (0 ∷ 1 ∷ 3 ∷ [])
  -- A preset or a time of day, in the first time.
  pub first : (l k e : ℕ) → AllUse (DS ∷ DC ∷ []) l k e (0 ∷ 1 ∷ 12 ∷ 13 ∷ 14 ∷ 15 ∷ [])
  -- A length, and as many numbers.
  pub list_0 : (k e : ℕ) → AllUse list_marks 0 k e (0 ∷ 1 ∷ 4 ∷ [])
  pub list_1 : (k e : ℕ) → AllUse list_marks 1 k e (0 ∷ 1 ∷ 4 ∷ 5 ∷ [])
  pub list_2 : (k e : ℕ) → AllUse list_marks 2 k e (0 ∷ 1 ∷ 4 ∷ 5 ∷ 6 ∷ [])
  pub list_3 : (k e : ℕ) → AllUse list_marks 3 k e (0 ∷ 1 ∷ 4 ∷ 5 ∷ 6 ∷ 7 ∷ [])
  pub list_4 : (k e : ℕ) → AllUse list_marks 4 k e (0 ∷ 1 ∷ 4 ∷ 5 ∷ 6 ∷ 7 ∷ 8 ∷ [])
  -- CONTINUE by start kinds: number, priority, kind; the interrupt of a WHEN; a first time.
  pub continue_0 : (l e : ℕ) → AllUse (CO ∷ []) l 0 e (0 ∷ 1 ∷ 2 ∷ 3 ∷ 9 ∷ [])
  pub continue_1 : (l e : ℕ) → AllUse (CO ∷ []) l 1 e (0 ∷ 1 ∷ 2 ∷ 3 ∷ 9 ∷ 12 ∷ 13 ∷ 14 ∷ 15 ∷ [])
  pub continue_2 : (l e : ℕ) → AllUse (CO ∷ []) l 2 e (0 ∷ 1 ∷ 2 ∷ 3 ∷ 9 ∷ 12 ∷ 13 ∷ 14 ∷ 15 ∷ [])
  pub continue_3 : (l e : ℕ) → AllUse (CO ∷ []) l 3 e (0 ∷ 1 ∷ 2 ∷ 3 ∷ 9 ∷ 10 ∷ [])
  pub continue_4 : (l e : ℕ) → AllUse (CO ∷ []) l 4 e (0 ∷ 1 ∷ 2 ∷ 3 ∷ 9 ∷ 10 ∷ 12 ∷ 13 ∷ 14 ∷ 15 ∷ [])
  -- RESUME, which has neither number nor priority. In kind 0 its first time is the duration.
  pub resume_0 : (l e : ℕ) → AllUse (RE ∷ []) l 0 e (0 ∷ 1 ∷ 9 ∷ 12 ∷ 13 ∷ 14 ∷ 15 ∷ [])
  pub resume_1 : (l e : ℕ) → AllUse (RE ∷ []) l 1 e (0 ∷ 1 ∷ 9 ∷ 12 ∷ 13 ∷ 14 ∷ 15 ∷ [])
  pub resume_2 : (l e : ℕ) → AllUse (RE ∷ []) l 2 e (0 ∷ 1 ∷ 9 ∷ 12 ∷ 13 ∷ 14 ∷ 15 ∷ [])
  pub resume_3 : (l e : ℕ) → AllUse (RE ∷ []) l 3 e (0 ∷ 1 ∷ 9 ∷ 10 ∷ [])
  pub resume_4 : (l e : ℕ) → AllUse (RE ∷ []) l 4 e (0 ∷ 1 ∷ 9 ∷ 10 ∷ 12 ∷ 13 ∷ 14 ∷ 15 ∷ [])
  -- ACTIVATE at once: number, priority, kind.
  pub activate_0 : (l : ℕ) → AllUse (AC ∷ []) l 0 0 (0 ∷ 1 ∷ 2 ∷ 3 ∷ 9 ∷ [])
  -- With another kind a period besides, and which end. AT and AFTER have a first time.
  pub activate_1 : (l : ℕ)
      → AllUse (AC ∷ []) l 1 0 (0 ∷ 1 ∷ 2 ∷ 3 ∷ 9 ∷ 11 ∷ 12 ∷ 13 ∷ 14 ∷ 15 ∷ 16 ∷ 17 ∷ 18 ∷ 19 ∷ [])
  pub activate_2 : (l : ℕ)
      → AllUse (AC ∷ []) l 2 0 (0 ∷ 1 ∷ 2 ∷ 3 ∷ 9 ∷ 11 ∷ 12 ∷ 13 ∷ 14 ∷ 15 ∷ 16 ∷ 17 ∷ 18 ∷ 19 ∷ [])
  -- WHEN has an interrupt, WHEN AFTER both.
  pub activate_3 : (l : ℕ) → AllUse (AC ∷ []) l 3 0 (0 ∷ 1 ∷ 2 ∷ 3 ∷ 9 ∷ 10 ∷ 11 ∷ 16 ∷ 17 ∷ 18 ∷ 19 ∷ [])
  pub activate_4 : (l : ℕ)
      → AllUse (AC ∷ []) l 4 0 (0 ∷ 1 ∷ 2 ∷ 3 ∷ 9 ∷ 10 ∷ 11 ∷ 12 ∷ 13 ∷ 14 ∷ 15 ∷ 16 ∷ 17 ∷ 18 ∷ 19 ∷ [])
  -- ALL alone has neither.
  pub activate_5 : (l : ℕ) → AllUse (AC ∷ []) l 5 0 (0 ∷ 1 ∷ 2 ∷ 3 ∷ 9 ∷ 11 ∷ 16 ∷ 17 ∷ 18 ∷ 19 ∷ [])
  -- An end has its time besides.
  pub end : (l k e : ℕ) → bytes_used AC l k (suc e) ≡ bytes_used AC l k 0 ++ 20 ∷ 21 ∷ 22 ∷ 23 ∷ []

-- A record with another byte that isn't zero gets 3, whatever else is wrong with it.
abbrev pub UnusedIsThree : Type 0
UnusedIsThree =
    (day : ℕ) (s : List ℕ) (m : Mark) (i : ℕ) → length s ≡ record_length → letters s ≡ code m → i < record_length
    → names (bytes_used m (byte s 4) (byte s 9) (byte s 11)) i ≡ false → (byte s i ≡ 0 → ⊥)
    → number_of (reading day s).answer ≡ 3
