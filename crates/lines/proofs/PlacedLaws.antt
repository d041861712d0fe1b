-- Texts that are written one after the other are one text.
use mathlib.Core.Path.{◌≡◌, refl, sym, ap, ◌∙◌}
use mathlib.Core.List.{List, [], ◌∷◌, ◌++◌, append-nil, append_assoc}
use Prim.Native.Nat.{ℕ, suc, ◌+◌, ◌≤◌, ◌<◌}
use native.Mathlib.Nat.{add-zero, add_assoc}
use native.Mathlib.Numerals.{add-one}
use native.Mathlib.Omega.{arith}
use lib.ListN.{length, take, drop, set, length-append, length-set, take-append-drop}
use lib.Seq.{length-take-le, set_split, take_at, take-set-le, drop_at, drop-append-add, drop-drop}
use Rattle.lines.specs.Buffers.{placed, Wrote}

-- A store is a text of one byte.
pub stored : (s : List ℕ) (at b : ℕ) → at < length s → set s at b ≡ placed s at (b ∷ [])
unfolding placed
stored s at b h = set_split s at b h ∙ rw (add-one at) (sym (append_assoc (take at s) (b ∷ []) (drop (suc at) s)))

-- A text whose last byte is stored first.
pub last_first : (s : List ℕ) (at : ℕ) (t : List ℕ) (b : ℕ) → at + length t < length s → placed (set s (at + length t) b) at t ≡ placed s at (t ++ b ∷ [])
unfolding placed
last_first s at t b h =
    let i : ℕ = at + length t in
    let front : take at (set s i b) ≡ take at s = take-set-le at s i b (omega arith) in
    let back : drop i (set s i b) ≡ b ∷ drop (suc i) s =
    rw (set_split s i b h) (drop_at (take i s) (b ∷ drop (suc i) s) i (length-take-le i s (omega arith))) in
    let next : at + length (t ++ b ∷ []) ≡ suc i = omega (arith, length-append t (b ∷ [])) in
    rw (front, back, next) (simp append_assoc)

drop_past : (p d : List ℕ) (m n : ℕ) → length p ≡ m → drop (m + n) (p ++ d) ≡ drop n d
drop_past p d m n e = rw (← e) (drop-append-add p d n)

chained : (s : List ℕ) (at : ℕ) (t u : List ℕ) → at + length t ≤ length s → placed (placed s at t) (at + length t) u ≡ placed s at (t ++ u)
unfolding placed
chained s at t u room =
    let p : List ℕ = take at s ++ t in
    let d : List ℕ = drop (at + length t) s in
    let l : length p ≡ at + length t = length-append (take at s) t ∙ rw (length-take-le at s (omega arith)) in
    let front : take (at + length t) (p ++ d) ≡ p = take_at p d (at + length t) l in
    let back : drop (at + length t + length u) (p ++ d) ≡ drop (at + length t + length u) s =
    drop_past p d (at + length t) (length u) l ∙ drop-drop (length u) (at + length t) s in
    rw (front, back, length-append t u, add_assoc at (length t) (length u), append_assoc (take at s) t u)

-- A writer that writes nothing.
pub wrote_nothing : (s : List ℕ) (at : ℕ) → Wrote s at [] s at
unfolding placed
wrote_nothing s at = record { place = omega arith; buffer = rw (append-nil (take at s), add-zero at) (sym (take-append-drop at s)) }

pub byte_wrote : (s : List ℕ) (at b : ℕ) → at < length s → Wrote s at (b ∷ []) (set s at b) (at + 1)
byte_wrote s at b h = record { place = refl; buffer = stored s at b h }

pub then : {s t u s' s'' : List ℕ} {at e e' : ℕ} → Wrote s at t s' e → Wrote s' e u s'' e' → e ≤ length s → Wrote s at (t ++ u) s'' e'
then {s} {t} {u} {s'} {s''} {at} {e} {e'} w v room =
    record {
      place = omega (arith, length-append t u);
      buffer = v.buffer ∙ rw (w.buffer, w.place) (chained s at t u (omega arith));
    }

-- A byte stored before a text.
pub before_text : (s : List ℕ) (at b : ℕ) {t s' : List ℕ} {e : ℕ} → at < length s → Wrote (set s at b) (at + 1) t s' e → Wrote s at (b ∷ t) s' e
before_text s at b h w = then (byte_wrote s at b h) w (omega arith)

pub two_wrote : (s : List ℕ) (at a b : ℕ) → at + 1 < length s → Wrote s at (a ∷ b ∷ []) (set (set s at a) (at + 1) b) (at + 2)
two_wrote s at a b h =
    let w = before_text s at a (omega arith) (byte_wrote (set s at a) (at + 1) b (simp length-set (omega arith))) in
    record { place = refl; buffer = w.buffer }

-- A text from the start lies within the buffer.
pub text_within : {s t s' : List ℕ} {e : ℕ} → Wrote s 0 t s' e → e ≤ length s'
unfolding placed
text_within {s} {t} w =
    omega (arith, w.place, ap length w.buffer, length-append (take 0 s ++ t) (drop (0 + length t) s), length-append (take 0 s) t)
