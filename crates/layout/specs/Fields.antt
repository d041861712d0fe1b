-- Where each field stands in the 24 bytes (document 01, "Records").
use Rattle.std.specs.Prelude.{◌≡◌, List, [], ◌∷◌, ◌++◌, ℕ, ◌+◌, ◌*◌, ◌/◌, ◌%◌, ◌<◌, get_or, length}
use Rattle.layout.specs.declared.Mark.{Mark}
use Rattle.layout.specs.declared.Head.{Head}
use Rattle.layout.specs.declared.Call.{Call}
use Rattle.layout.specs.Marks.{code}

abbrev pub record_length : ℕ
record_length = 24

-- the most numbers that a list names
abbrev pub most_numbers : ℕ
most_numbers = 4

-- the list of a call that takes none
abbrev pub no_list : List ℕ
no_list = 0 ∷ 0 ∷ 0 ∷ 0 ∷ []

abbrev pub byte : List ℕ → ℕ → ℕ
byte s i = get_or s i 0

-- The mark's letters: bytes 0 and 1.
abbrev pub letters : List ℕ → ℕ
letters s = byte s 0 * 256 + byte s 1

-- Four bytes from i on, big-endian.
abbrev pub word : List ℕ → ℕ → ℕ
word s i = ((byte s i * 256 + byte s (i + 1)) * 256 + byte s (i + 2)) * 256 + byte s (i + 3)

-- The fields of a record whose mark is m.
unfoldable pub head_of : Mark → List ℕ → Head
head_of m s =
    record {
      mark = m;
      number = byte s 2;
      priority = byte s 3;
      len = byte s 4;
      kind = byte s 9;
      interrupt = byte s 10;
      endkind = byte s 11;
      first = word s 12;
      period = word s 16;
      endtime = word s 20;
    }

unfoldable pub list_of : List ℕ → List ℕ
list_of s = byte s 5 ∷ byte s 6 ∷ byte s 7 ∷ byte s 8 ∷ []

abbrev pub call_of : Mark → List ℕ → Call
call_of m s = record { head = head_of m s; list = list_of s }

-- A number below 2^32 as four bytes, big-endian.
abbrev pub bytes_of_word : ℕ → List ℕ
bytes_of_word n = n / 0x1000000 ∷ n / 0x10000 % 256 ∷ n / 256 % 256 ∷ n % 256 ∷ []

-- The 24 bytes of a call or declaration.
unfoldable pub bytes_of : Call → List ℕ
bytes_of c =
    let h = c.head in
    (code h.mark / 256 ∷ code h.mark % 256 ∷ h.number ∷ h.priority ∷ h.len ∷ [])
    ++ (get_or c.list 0 0 ∷ get_or c.list 1 0 ∷ get_or c.list 2 0 ∷ get_or c.list 3 0 ∷ [])
    ++ (h.kind ∷ h.interrupt ∷ h.endkind ∷ [])
    ++ bytes_of_word h.first
    ++ bytes_of_word h.period
    ++ bytes_of_word h.endtime

-- ---- the values of the code

-- A list has four places, as in every call of the code.
abbrev pub FourPlaces : Call → Type 0
FourPlaces c = length c.list ≡ most_numbers

-- Each element is a byte.
abbrev pub Octets : List ℕ → Type 0
Octets s = (i : ℕ) → byte s i < 256
