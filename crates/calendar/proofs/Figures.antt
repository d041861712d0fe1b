-- The figures are computed, and the tests of times go by them.
use mathlib.Core.Path.{refl}
use native.Mathlib.Omega.{arith}
use lib.Dec.{leb}
use borrow.Author.Tests.{ltb-true, lt-ltb, leb-true, le-leb}
use Rattle.facts.proofs.Bools.{both, and_both}
use Rattle.calendar.specs.Limits.{day_length, longest_duration}
use Rattle.calendar.specs.Figures.{Figures}

pub figures : Figures
figures =
    record {
      one_tick = refl;
      day = refl;
      an_hour = refl;
      present = refl;
      stored = refl;
      time_of_day = λ t. (λ e. omega (arith, ltb-true t day_length e), λ l. lt-ltb t day_length (omega arith));
      duration = λ d. (
        λ e. let p = both (leb 1 d) (leb d longest_duration) e in
            (omega (arith, leb-true 1 d p.0), omega (arith, leb-true d longest_duration p.1)),
        λ l. and_both (le-leb 1 d (omega arith)) (le-leb d longest_duration (omega arith)),
      );
      period = λ p. (λ e. omega (arith, leb-true p longest_duration e), λ l. le-leb p longest_duration (omega arith));
    }
