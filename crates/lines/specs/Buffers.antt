-- Text in a buffer.
use Rattle.std.specs.Prelude.{◌≡◌, List, ◌++◌, ℕ, ◌+◌, length, take, drop}

-- The buffer with a text from at on, and as it was before and after it.
unfoldable pub placed : List ℕ → ℕ → List ℕ → List ℕ
placed buffer at text = take at buffer ++ text ++ drop (at + length text) buffer

-- What a writer of a text promises: the place after it, and just the text is new in the buffer.
pub record Wrote (before : List ℕ) (at : ℕ) (text after : List ℕ) (end : ℕ) : Type 0 where
  pub place : end ≡ at + length text
  pub buffer : after ≡ placed before at text
