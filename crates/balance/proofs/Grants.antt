-- How the count of grants moves with the levels.
use mathlib.Core.Path.{◌≡◌, refl}
use mathlib.Core.List.{List}
use Prim.Native.Nat.{ℕ, ◌+◌, ◌*◌, ◌^◌, ◌<◌}
use native.Mathlib.Omega.{arith}
use Rattle.lock.specs.declared.Wait.{Wait}
use Rattle.lock.specs.declared.Wait.TheVariants.{Nothing, Request, Reserve, Enter}
use Rattle.lock.proofs.Levels.{Law}
use Rattle.machine.specs.Sets.{has, put}
use Rattle.machine.proofs.SetLaws.{has_empty, has_one, has_other, has_put, has_put_other}
use Rattle.machine.proofs.Below.{sum_zero, sum_update}
use Rattle.balance.specs.Counting.{Asking, counts, grants_in}

-- A level that moved by grants alone, with the grants counted before and after.
abbrev pub Moved : Wait → ℕ → ℕ → ℕ → ℕ → Type 0
Moved Nothing a g b g' = Unit {0}
Moved Request a g b g' = a + g ≡ b + g'
Moved Reserve a g b g' = a + g' ≡ b + g
Moved Enter a g b g' = a + g' ≡ b + g

pub moved_refl : (v : Wait) (a g : ℕ) → Moved v a g a g
moved_refl Nothing a g = tt
moved_refl Request a g = refl
moved_refl Reserve a g = refl
moved_refl Enter a g = refl

-- One more grant after those.
pub moved_more : (v : Wait) (a g b h c d : ℕ) → Moved v b h a g → Law v c d 0 b → Moved v c (h + d) a g
moved_more Nothing a g b h c d p q = tt
moved_more Request a g b h c d p q = omega arith
moved_more Reserve a g b h c d p q = omega arith
moved_more Enter a g b h c d p q = omega arith

-- Grants after a work.
pub law_moved : (v : Wait) (a b c g h r : ℕ) → Law v b g r a → Moved v c h b g → Law v c h r a
law_moved Nothing a b c g h r p q = tt
law_moved Request a b c g h r p q = omega arith
law_moved Reserve a b c g h r p q = omega arith
law_moved Enter a b c g h r p q = omega arith

pub no_kind : (v : Wait) (x : ℕ) (l : List ℕ) → counts v x (record { kind = Nothing; list = l }) ≡ 0
no_kind Nothing x l = refl
no_kind Request x l = refl
no_kind Reserve x l = refl
no_kind Enter x l = refl

module _ (n : ℕ) (v : Wait) (x : ℕ) (last : Asking) where
  pub no_grants : grants_in n v x last 0 ≡ 0
  unfolding grants_in
  no_grants = sum_zero n _ (λ i h. rw has_empty (omega arith))

  pub one_grant : (i : ℕ) → i < n → grants_in n v x last (2 ^ i) ≡ counts v x (last i)
  one_grant i h = omega (arith, no_grants, more)
    where
      more : grants_in n v x last 0 + counts v x (last i) ≡ grants_in n v x last (2 ^ i)
      more =
          unfold grants_in in
          sum_update n (λ j. has j 0 * counts v x (last j)) (λ j. has j (2 ^ i) * counts v x (last j)) i (counts v x (last i)) h
          (rw (has_empty, has_one) (omega arith)) (λ j ne. rw (has_empty, has_other i j ne))

  pub put_grant : (g j : ℕ) → j < n → has j g ≡ 0 → grants_in n v x last g + counts v x (last j) ≡ grants_in n v x last (put j g)
  unfolding grants_in
  put_grant g j l e =
      sum_update n (λ i. has i g * counts v x (last i)) (λ i. has i (put j g) * counts v x (last i)) j (counts v x (last j)) l
      (rw (has_put, e) (omega arith)) (λ i ne. rw (has_put_other j i g ne))
