-- Letters, words, bytes and fields, there and back.
use mathlib.Core.Path.{◌≡◌, refl, sym, ◌∙◌, ap}
use mathlib.Core.List.{List, [], ◌∷◌}
use Prim.Native.Nat.{ℕ, zero, suc, ◌+◌, ◌*◌, ◌/◌, ◌%◌, ◌<◌}
use native.Mathlib.Nat.{div-add-mod'}
use native.Mathlib.Omega.{arith}
use lib.ListN.{length, get_or}
use Rattle.layout.specs.declared.Mark.{Mark}
use Rattle.layout.specs.declared.Call.{Call}
use Rattle.layout.specs.Marks.{code}
use Rattle.layout.specs.Fields.{record_length, byte, letters, word, head_of, list_of, call_of, bytes_of_word, bytes_of, FourPlaces, Octets}

-- ---- a list, element by element

abbrev spell : ℕ → (ℕ → ℕ) → List ℕ
spell zero f = []
spell (suc n) f = f 0 ∷ spell n (λ i. f (suc i))

spelt : (s : List ℕ) → spell (length s) (λ i. get_or s i 0) ≡ s
spelt [] = refl
spelt (x ∷ s) = ap (λ (l : List ℕ). x ∷ l) (spelt s)

spelt_to : (n : ℕ) (s : List ℕ) → length s ≡ n → spell n (λ i. get_or s i 0) ≡ s
spelt_to n s e = rw e at (spelt s)

-- ---- words

-- A number's four bytes are its word.
pub word_back : (n : ℕ) → word (bytes_of_word n) 0 ≡ n
word_back n = omega arith

-- A word's four bytes are those that it was read from.
pub bytes_back : (s : List ℕ) (i : ℕ) → Octets s → bytes_of_word (word s i) ≡ byte s i ∷ byte s (i + 1) ∷ byte s (i + 2) ∷ byte s (i + 3) ∷ []
bytes_back s i o = four (byte s i) (byte s (i + 1)) (byte s (i + 2)) (byte s (i + 3)) (o i) (o (i + 1)) (o (i + 2)) (o (i + 3)) where
  four : (a b c d : ℕ) → a < 256 → b < 256 → c < 256 → d < 256 → bytes_of_word (((a * 256 + b) * 256 + c) * 256 + d) ≡ a ∷ b ∷ c ∷ d ∷ []
  four a b c d la lb lc ld =
      let n : ℕ = ((a * 256 + b) * 256 + c) * 256 + d in
      let ea : n / 0x1000000 ≡ a = omega arith in
      let eb : n / 0x10000 % 256 ≡ b = omega arith in
      let ec : n / 256 % 256 ≡ c = omega arith in
      let ed : n % 256 ≡ d = omega arith in
      rw (ea, eb, ec, ed)

-- ---- a call's bytes

-- The bytes from their parts: the letters' number and three times as bytes.
pub laid : (c : Call) {k : ℕ} {f p e : List ℕ} → k ≡ code c.head.mark → f ≡ bytes_of_word c.head.first → p ≡ bytes_of_word c.head.period → e ≡ bytes_of_word c.head.endtime →
    let h = c.head in let l = c.list in
    (k / 256 ∷ k % 256 ∷ h.number ∷ h.priority ∷ h.len ∷ get_or l 0 0 ∷ get_or l 1 0 ∷ get_or l 2 0 ∷ get_or l 3 0 ∷ h.kind ∷ h.interrupt ∷ h.endkind ∷ get_or f 0 0 ∷ get_or f 1 0 ∷ get_or f 2 0 ∷ get_or f 3 0 ∷ get_or p 0 0 ∷ get_or p 1 0 ∷ get_or p 2 0 ∷ get_or p 3 0 ∷ get_or e 0 0 ∷ get_or e 1 0 ∷ get_or e 2 0 ∷ get_or e 3 0 ∷ []) ≡ bytes_of c
unfolding bytes_of
laid c k f p e = rw (k, f, p, e)

module _ (c : Call) where
  pub bytes_long : length (bytes_of c) ≡ record_length
  unfolding bytes_of
  bytes_long = refl

  pub bytes_letters : letters (bytes_of c) ≡ code c.head.mark
  unfolding bytes_of
  bytes_letters = div-add-mod' (code c.head.mark) 256

  pub bytes_head : head_of c.head.mark (bytes_of c) ≡ c.head
  unfolding bytes_of head_of
  bytes_head = rw (word_back c.head.first, word_back c.head.period, word_back c.head.endtime)

  pub bytes_list : FourPlaces c → list_of (bytes_of c) ≡ c.list
  unfolding bytes_of list_of
  bytes_list e = spelt_to 4 c.list e

-- The fields of 24 bytes, laid out, are those bytes.
pub fields_bytes : (s : List ℕ) (m : Mark) → Octets s → length s ≡ record_length → letters s ≡ code m → bytes_of (call_of m s) ≡ s
unfolding head_of list_of
fields_bytes s m o e l =
    let high : letters s / 256 ≡ byte s 0 = omega (arith, o 1) in
    let low : letters s % 256 ≡ byte s 1 = omega (arith, o 1) in
    sym (laid (call_of m s) l (sym (bytes_back s 12 o)) (sym (bytes_back s 16 o)) (sym (bytes_back s 20 o)))
    ∙ rw (high, low) (spelt_to 24 s e)
