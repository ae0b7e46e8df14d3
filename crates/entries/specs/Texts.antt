-- The bytes that hold a text, and what comparing two texts tells.
-- Assumes nothing.
use Rattle.std.specs.Prelude.{◌≡◌, List, ℕ, replicate, T}
use Rattle.std.specs.declared.cmp.Ordering.{Ordering}
use Rattle.std.specs.declared.cmp.Ordering.TheVariants.{Less, Equal, Greater}
use Rattle.std.proofs.lemmas.List.Edits.{sets}
use Rattle.meaning.specs.Limits.{forest_bytes}
use Rattle.meaning.specs.Sorted.{lesser}

-- the array of as many bytes as a forest text can have that holds the letters xs and zeros behind them
abbrev pub padded : List ℕ → List ℕ
padded xs = sets (replicate forest_bytes 0) 0 xs

-- the first is the lesser, or both are the same, or the second is the lesser
pub data Compared (xs ys : List ℕ) : Ordering → Type 0 where
  first : T (lesser xs ys) → Compared xs ys Less
  both : xs ≡ ys → Compared xs ys Equal
  second : T (lesser ys xs) → Compared xs ys Greater
