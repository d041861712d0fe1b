-- Lines: how long, and read back.
use Rattle.std.specs.Prelude.{None, Some}
use mathlib.Core.Path.{◌≡◌, refl, sym, ◌∙◌, ap}
use mathlib.Core.Bool.{true}
use mathlib.Core.List.{List, [], ◌∷◌, ◌++◌, append_assoc}
use Prim.Native.Nat.{ℕ, ◌≤◌, ◌<◌}
use native.Mathlib.Omega.{arith}
use lib.Dec.{leb}
use lib.ListN.{length, length-append}
use borrow.Author.Tests.{leb-true}
use Rattle.machine.specs.Sets.{Set, Due, Started, Ended, Lost, Granted, members}
use Rattle.machine.specs.declared.Answer.{Answer}
use Rattle.machine.specs.Running.{Running}
use Rattle.facts.proofs.Bools.{both}
use Rattle.lines.specs.Decimals.{spelt, decimal, value, is_digit, all_digits}
use Rattle.lines.specs.Lines.{space, dash, line_feed, running_text, sets_text, line, RunningByte, NoLineLonger, LinesReadBack}
use Rattle.lines.proofs.DecimalLaws.{printed_reads_back, digits_alone, byte_long, word_long}

-- ---- how long

pub running_long : (r : Running) → RunningByte r → length (running_text r) ≤ 3
unfolding running_text
running_long None h = omega arith
running_long (Some i) h = byte_long i h

pub no_line_longer : NoLineLonger
unfolding line sets_text
no_line_longer a t =
    let word : (x : Set) → length (decimal (members x a.sets)) ≤ 10 = λ x. word_long (members x a.sets) (t.sets x) in
    simp length-append
    (omega
    (arith, byte_long a.number t.number, running_long a.running t.running, word Due, word Started, word Ended, word Lost, word Granted))

-- ---- read back

-- No byte of a text is b.
abbrev Without : ℕ → List ℕ → Type 0
Without b [] = Unit
Without b (x ∷ l) = (x ≡ b → ⊥) × Without b l

-- A byte that stands in neither of two texts parts each from what follows.
parts : (b : ℕ) (t u r s : List ℕ) → Without b t → Without b u → t ++ b ∷ r ≡ u ++ b ∷ s → (t ≡ u) × (r ≡ s)
parts b [] [] r s p q e = (refl, cc)
parts b [] (y ∷ u) r s p q e = absurd (q.0 (cc))
parts b (x ∷ t) [] r s p q e = absurd (p.0 (cc))
parts b (x ∷ t) (y ∷ u) r s p q e =
    let h = parts b t u r s p.1 q.1 (cc) in
    let first : x ≡ y = cc in
    (rw (first, h.0), h.1)

digits_without : (b : ℕ) → b < 48 → (l : List ℕ) → all_digits l ≡ true → Without b l
unfolding all_digits
digits_without b low [] e = tt
digits_without b low (x ∷ l) e =
    let h = both (is_digit x) (all_digits l) e in
    let d = both (leb 48 x) (leb x 57) h.0 in
    ((λ same. omega (arith, leb-true 48 x d.0)), digits_without b low l h.1)

decimal_without : (b n : ℕ) → b < 48 → Without b (decimal n)
decimal_without b n low = digits_without b low (decimal n) (digits_alone n)

same_number : (m n : ℕ) → decimal m ≡ decimal n → m ≡ n
same_number m n e = sym (printed_reads_back m) ∙ ap value e ∙ printed_reads_back n

running_without : (r : Running) → Without space (running_text r)
unfolding running_text
running_without None = ((λ e. omega arith), tt)
running_without (Some i) = decimal_without space i (omega arith)

-- A dash is no number.
no_dash : (i : ℕ) → decimal i ≡ dash ∷ [] → ⊥
no_dash i e = let w = decimal_without dash i (omega arith) in (rw e at w).0 refl

same_running_law : (p q : Running) → running_text p ≡ running_text q → p ≡ q
unfolding running_text
same_running_law None None e = refl
same_running_law None (Some j) e = absurd (no_dash j (sym e))
same_running_law (Some i) None e = absurd (no_dash i e)
same_running_law (Some i) (Some j) e = ap Some (same_number i j e)

-- A decimal, a byte that is none of its digits, and a rest.
past : (b : ℕ) → b < 48 → (m n : ℕ) (r s : List ℕ) → decimal m ++ b ∷ r ≡ decimal n ++ b ∷ s → (m ≡ n) × (r ≡ s)
past b low m n r s e =
    let h = parts b (decimal m) (decimal n) r s (decimal_without b m low) (decimal_without b n low) e in
    (same_number m n h.0, h.1)

answer : ℕ → Running → ℕ → ℕ → ℕ → ℕ → ℕ → Answer
answer n r d s e l g =
    record { number = n; running = r; sets = record { due = d; started = s; ended = e; lost = l; granted = g } }

-- 0 - 1 12 0 0 0
example : line (answer 0 None 1 12 0 0 0) ≡ 48 ∷ 32 ∷ 45 ∷ 32 ∷ 49 ∷ 32 ∷ 49 ∷ 50 ∷ 32 ∷ 48 ∷ 32 ∷ 48 ∷ 32 ∷ 48 ∷ 10 ∷ []
unfolding answer line sets_text running_text decimal spelt
example = refl

-- A line before a rest, from the left.
opened : Answer → List ℕ → List ℕ
opened a r =
    let s = a.sets in
    decimal a.number
    ++ space ∷ (running_text a.running
    ++ space ∷ (decimal s.due
    ++ space ∷ (decimal s.started
    ++ space ∷ (decimal s.ended ++ space ∷ (decimal s.lost ++ space ∷ (decimal s.granted ++ line_feed ∷ r))))))

line_opened : (a : Answer) (r : List ℕ) → line a ++ r ≡ opened a r
unfolding line sets_text opened
line_opened a r =
    regroup
    (decimal a.number)
    (space ∷ running_text a.running)
    (space ∷ decimal a.sets.due)
    (space ∷ decimal a.sets.started)
    (space ∷ decimal a.sets.ended)
    (space ∷ decimal a.sets.lost)
    (space ∷ decimal a.sets.granted)
    (line_feed ∷ [])
    r where
      regroup : (a b c d e f g h r : List ℕ) → a ++ b ++ (c ++ d ++ e ++ f ++ g ++ h) ++ r ≡ a ++ (b ++ (c ++ (d ++ (e ++ (f ++ (g ++ (h ++ r)))))))
      regroup a b c d e f g h r = simp append_assoc

pub lines_read_back : LinesReadBack
unfolding opened
lines_read_back a b r s e =
    let number = past space (omega arith) a.number b.number _ _ (sym (line_opened a r) ∙ e ∙ line_opened b s) in
    let running = parts space (running_text a.running) (running_text b.running) _ _ (running_without a.running) (running_without b.running) number.1 in
    let p = a.sets in
    let q = b.sets in
    let due = past space (omega arith) p.due q.due _ _ running.1 in
    let started = past space (omega arith) p.started q.started _ _ due.1 in
    let ended = past space (omega arith) p.ended q.ended _ _ started.1 in
    let lost = past space (omega arith) p.lost q.lost _ _ ended.1 in
    let granted = past line_feed (omega arith) p.granted q.granted _ _ lost.1 in
    let runs = same_running_law a.running b.running running.0 in (
      λ i. record {
        number = number.0 i;
        running = runs i;
        sets = record { due = due.0 i; started = started.0 i; ended = ended.0 i; lost = lost.0 i; granted = granted.0 i };
      },
      granted.1,
    )
