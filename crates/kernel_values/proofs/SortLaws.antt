-- The sorts that are about the running task, by their tags.
use mathlib.Core.Path.{◌≡◌, refl}
use mathlib.Core.Logic.{⊎_elim}
use mathlib.Core.Bool.{true, false}
use mathlib.Core.List.{List, [], ◌∷◌}
use Prim.Native.Nat.{ℕ, ◌≤◌}
use native.Mathlib.Omega.{arith}
use types.Run.{OneOf}
use denote.Enum.Declared.{tag_of}
use Rattle.machine.specs.contracts.Sort as SortT
use Rattle.machine.specs.Sorts.{naming}
use Rattle.machine.specs.declared.Sort.{Sort}
use Rattle.machine.specs.declared.Sort.TheVariants.{Declaration, OneTask, TheRunner, ListAsked, ListGiven, AnInterrupt, EveryTask}
use Rattle.kernel_values.specs.Sorts.{about_one}

-- The tags of what is left of a match once the others have their arms.
abbrev pub rest : List ℕ
rest = 2 ∷ 3 ∷ 4 ∷ []

rest_between : (n : ℕ) → OneOf rest n → (2 ≤ n) × (n ≤ 4)
rest_between n o = ⊎_elim (λ e. omega arith) (λ q. ⊎_elim (λ e. omega arith) (λ e. omega arith) q) o

pub about_runner : (s : Sort) → OneOf rest (tag_of SortT.the_type s) → (about_one s ≡ true) × (naming s ≡ false)
about_runner Declaration o = absurd (omega (arith, rest_between 0 o))
about_runner OneTask o = absurd (omega (arith, rest_between 1 o))
about_runner TheRunner o = (refl, refl)
about_runner (ListAsked w b) o = (refl, refl)
about_runner (ListGiven w) o = (refl, refl)
about_runner AnInterrupt o = absurd (omega (arith, rest_between 5 o))
about_runner EveryTask o = absurd (omega (arith, rest_between 6 o))
