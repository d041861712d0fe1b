-- A script's bytes as records.
use Rattle.std.specs.Prelude.{List, [], ◌∷◌, ℕ, zero, suc, length, take, drop}
use Rattle.layout.specs.Fields.{record_length}

-- At most so many records: 24 bytes each, and a short rest is one last record.
unfoldable pub cut : ℕ → List ℕ → List (List ℕ)
cut zero s = []
cut (suc n) [] = []
cut (suc n) (b ∷ s) = take record_length (b ∷ s) ∷ cut n (drop record_length (b ∷ s))

-- There are never more records than bytes.
unfoldable pub records : List ℕ → List (List ℕ)
records s = cut (length s) s
