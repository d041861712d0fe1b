-- A call no two of whose fields are alike, byte for byte (document 01, "Records"). Proved in proofs/ByteLaws.antt.
use Rattle.std.specs.Prelude.{◌≡◌, List, [], ◌∷◌, ◌++◌, ℕ}
use Rattle.layout.specs.declared.Mark.TheVariants.{AC}
use Rattle.layout.specs.declared.Call.{Call}
use Rattle.layout.specs.Fields.{call_of, bytes_of}
use Rattle.layout.specs.Letters.{ascii}

-- Each field has the numbers of its bytes as its value.
abbrev pub numbered_call : Call
numbered_call =
    record {
      head = record {
        mark = AC;
        number = 2;
        priority = 3;
        len = 4;
        kind = 9;
        interrupt = 10;
        endkind = 11;
        first = 0x0c0d0e0f;
        period = 0x10111213;
        endtime = 0x14151617;
      };
      list = 5 ∷ 6 ∷ 7 ∷ 8 ∷ [];
    }

-- From byte 2 on each byte is its own number.
abbrev pub numbered_bytes : List ℕ
numbered_bytes =
    ascii "AC"
    ++ 2 ∷ 3 ∷ 4 ∷ 5 ∷ 6 ∷ 7 ∷ 8 ∷ 9 ∷ 10 ∷ 11
    ∷ 12 ∷ 13 ∷ 14 ∷ 15 ∷ 16 ∷ 17 ∷ 18 ∷ 19 ∷ 20 ∷ 21 ∷ 22 ∷ 23 ∷ []

pub record FieldsInPlace : Type 0 where
  pub laid_out : bytes_of numbered_call ≡ numbered_bytes
  pub taken_apart : call_of AC numbered_bytes ≡ numbered_call
