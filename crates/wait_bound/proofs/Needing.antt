-- The worked scripts, and what falls with them.
use mathlib.Core.Path.{◌≡◌, refl}
use mathlib.Core.Bool.{Bool, true, ◌&&◌}
use mathlib.Core.List.{List, [], ◌∷◌}
use Prim.Native.Nat.{ℕ}
use native.Mathlib.Nat.{not-suc-le-zero}
use lib.Dec.{ltb}
use borrow.Author.Tests.{ltb-true}
use Rattle.calendar.specs.Limits.{day_length}
use Rattle.lists.specs.Lists.{every}
use Rattle.facts.proofs.Bools.{both}
use Rattle.machine.specs.State.{nothing}
use Rattle.machine.specs.Log.{AllOctets, final}
use Rattle.machine.specs.Invariants.{Passes}
use Rattle.machine.specs.Scripts.{activate, terminate, request, release, CONTINUE◌PRIO◌}
use Rattle.machine.specs.Sums.{sum_below}
use Rattle.machine.proofs.Computing.{computed}
use Rattle.machine.proofs.Invariants.{is_day_law}
use Rattle.machine.proofs.Unholding.{final_passes}
use Rattle.machine.proofs.Taking.{nothing_passes}
use Rattle.wait_bound.specs.Queue.{ahead, bound_of}
use Rattle.wait_bound.specs.Stages.{stages_from, how_many, up_to, while}
use Rattle.wait_bound.specs.Needed.{one, two, pair, WorkedOut, ahead_alone, AllIsNeeded}
use Rattle.wait_bound.proofs.Bounded.{wait_is_bounded}
use Rattle.wait_bound.proofs.Meeting.{octets_of}

pub worked_out : WorkedOut
unfolding computed sum_below ahead bound_of stages_from how_many up_to while
worked_out =
    record {
      plain = refl;
      ended = refl;
      continued = refl;
      continued_later = refl;
      overtaken = refl;
      tried = refl;
      first = refl;
      second = refl;
      not_sooner = refl;
      pair_first = refl;
      pair_second = refl;
    }

-- ---- what falls

all_bytes : List (List ℕ) → Bool
all_bytes [] = true
all_bytes (b ∷ bs) = every (λ x. ltb x 256) b && all_bytes bs

all_octets : (bs : List (List ℕ)) → all_bytes bs ≡ true → AllOctets bs
unfolding all_bytes AllOctets
all_octets [] e = tt
all_octets (b ∷ bs) e = let p = both (every (λ x. ltb x 256) b) (all_bytes bs) e in (octets_of b p.0, all_octets bs p.1)

-- The kernel that a script leaves passes the test.
left_passes : (past : List (List ℕ)) → all_bytes past ≡ true → Passes day_length (final day_length nothing past)
left_passes past e = final_passes day_length is_day_law nothing (nothing_passes day_length is_day_law) past (all_octets past e)

-- Of each the count of the sentence is 0, one RELEASE is accepted, and the task isn't granted by it.
pub all_is_needed : AllIsNeeded
unfolding computed sum_below ahead ahead_alone stages_from how_many up_to while all_bytes
all_is_needed =
    record {
      stands = wait_is_bounded;
      lives = λ f.
          not-suc-le-zero (f day_length is_day_law (final day_length nothing one) (left_passes one refl) (terminate 0 ∷ release (0 ∷ []) ∷ []) (all_octets _ refl) 0 0 (refl, refl)
          (refl, refl) (ltb-true 0 1 refl));
      priorities = λ f.
          not-suc-le-zero (f day_length is_day_law (final day_length nothing two) (left_passes two refl) ((CONTINUE 1 PRIO 3) ∷ release (0 ∷ []) ∷ []) (all_octets _ refl) 0 0 (refl, refl)
          (refl, refl) (ltb-true 0 1 refl));
      newcomers = λ f.
          not-suc-le-zero (f day_length is_day_law (final day_length nothing one) (left_passes one refl) (activate 1 ∷ request (0 ∷ []) ∷ release (0 ∷ []) ∷ []) (all_octets _ refl) 0 0
          (refl, refl) (refl, refl) (ltb-true 0 1 refl));
      lists = λ f.
          not-suc-le-zero (f day_length is_day_law (final day_length nothing pair) (left_passes pair refl) (release (0 ∷ []) ∷ []) (all_octets _ refl) 1 0 (refl, refl)
          (record { lives = refl; priorities = refl; newcomers = refl }) (ltb-true 0 1 refl));
    }
