-- Which bytes are used, and which numbers records get, computed.
use mathlib.Core.Path.{◌≡◌, refl}
use mathlib.Core.Bool.{Bool, true, false, ◌||◌}
use mathlib.Core.List.{List, [], ◌∷◌, ◌++◌}
use Prim.Native.Nat.{ℕ, suc}
use native.Mathlib.Omega.{arith}
use borrow.Author.Tests.{lt-ltb}
use lib.Dec.{ltb}
use Rattle.layout.specs.declared.Mark.TheVariants.{AC}
use Rattle.layout.specs.Marks.{among}
use Rattle.layout.specs.Fields.{head_of, list_of}
use Rattle.layout.specs.Letters.{ascii}
use Rattle.lists.specs.Lists.{all_zero, names, distinct}
use Rattle.record.specs.Refusals.{on_interrupt, scheduled, at_time, after_duration, uses, clean_names, clean_start, ranged, formed, listed, end_timed, first_timed, resume_timed, start_timed, timed, shape, times, refusal}
use Rattle.record.specs.Stretches.{start_bytes, used_bytes}
use Rattle.record.specs.Reading.{opened, judged}
use Rattle.record.specs.Positions.{places_from, bytes_used, BytesByMark}
use Rattle.record.specs.Grounds.{GroundsInFigures}

-- ---- used bytes

-- An activation's bytes, by what its kinds say of its fields.
started : Bool → Bool → Bool → Bool → List ℕ
started w s f e =
    places_from 0 (true ∷ true ∷ true ∷ true ∷ false ∷ false ∷ false ∷ false ∷ false ∷ true ∷ start_bytes w s f s e)

started_end : (w s f : Bool) → started w s f true ≡ started w s f false ++ 20 ∷ 21 ∷ 22 ∷ 23 ∷ []
unfolding started places_from
started_end true true true = refl
started_end true true false = refl
started_end true false true = refl
started_end true false false = refl
started_end false true true = refl
started_end false true false = refl
started_end false false true = refl
started_end false false false = refl

by_kinds : (l k e : ℕ) → bytes_used AC l k e ≡ started (on_interrupt k) (scheduled k) (at_time k || after_duration k) (ltb 0 e)
unfolding bytes_used uses used_bytes started
by_kinds l k e = refl

end_used : (l k e : ℕ) → bytes_used AC l k (suc e) ≡ bytes_used AC l k 0 ++ 20 ∷ 21 ∷ 22 ∷ 23 ∷ []
end_used l k e =
    rw (by_kinds l k (suc e), by_kinds l k 0, lt-ltb 0 (suc e) (omega arith))
    (started_end (on_interrupt k) (scheduled k) (at_time k || after_duration k))

pub bytes_by_mark : BytesByMark
unfolding bytes_used places_from uses used_bytes
bytes_by_mark =
    record {
      bare = λ l k e. refl;
      number = λ l k e. refl;
      priority = λ l k e. refl;
      first = λ l k e. refl;
      list_0 = λ k e. refl;
      list_1 = λ k e. refl;
      list_2 = λ k e. refl;
      list_3 = λ k e. refl;
      list_4 = λ k e. refl;
      continue_0 = λ l e. refl;
      continue_1 = λ l e. refl;
      continue_2 = λ l e. refl;
      continue_3 = λ l e. refl;
      continue_4 = λ l e. refl;
      resume_0 = λ l e. refl;
      resume_1 = λ l e. refl;
      resume_2 = λ l e. refl;
      resume_3 = λ l e. refl;
      resume_4 = λ l e. refl;
      activate_0 = λ l. refl;
      activate_1 = λ l. refl;
      activate_2 = λ l. refl;
      activate_3 = λ l. refl;
      activate_4 = λ l. refl;
      activate_5 = λ l. refl;
      end = end_used;
    }

-- ---- records and their numbers

pub grounds_in_figures : GroundsInFigures
unfolding ascii opened among judged head_of list_of refusal shape times formed clean_names clean_start uses ranged listed all_zero names distinct timed first_timed end_timed resume_timed start_timed
grounds_in_figures =
    record {
      bytes = refl;
      mark = refl;
      priority_of_terminate = refl;
      number_of_tick = refl;
      past_the_length = refl;
      declared_priority = refl;
      preset = refl;
      length_of_list = refl;
      start_kind = refl;
      end_kind = refl;
      kind_of_continue = refl;
      empty = refl;
      twice = refl;
      try_of_one = refl;
      try_of_two = refl;
      try_of_four = refl;
      three_before_four = refl;
      clock = refl;
      at = refl;
      until = refl;
      after = refl;
      when_after = refl;
      during = refl;
      resume = refl;
      period = refl;
      period_of_all = refl;
      period_of_end = refl;
    }
