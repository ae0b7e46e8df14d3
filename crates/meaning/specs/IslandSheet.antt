-- What the islands program prints, as bytes. In words: docs/RULES.md, 'Islands'.
-- Assumes nothing.
use Rattle.std.specs.Prelude.{cond, List, [], ◌∷◌, ◌++◌, ℕ, suc, eqb, length}
use Rattle.meaning.specs.Bytes.{bytes}
use Rattle.meaning.specs.Kind.{Trees}
use Rattle.meaning.specs.EitherKind.{ApartAs}
use Rattle.meaning.specs.Listing.{Pair, Listing}
use Rattle.meaning.specs.Islands.{size}
use Rattle.meaning.specs.Copies.{merged, LinkedBy, MergedIslands}
use Rattle.meaning.specs.Sheet.{two_fields, Printout}

-- for an island its number and size
abbrev pub island_line : ℕ → ℕ → List ℕ
island_line m n = two_fields (bytes "island ") m (bytes " ") n

-- the line at position i, whose island is numbered x: none where the island has another number; ms are the numbers of all positions
abbrev pub line_at : List ℕ → ℕ → ℕ → List ℕ
line_at ms i x = cond (eqb x i) (island_line i (size ms i)) []

-- the lines at the positions from i on, whose islands are numbered xs
unfoldable pub lines_from : List ℕ → ℕ → List ℕ → List ℕ
lines_from ms i [] = []
lines_from ms i (x ∷ xs) = line_at ms i x ++ lines_from ms (suc i) xs

-- a line for each island, in order of number
abbrev pub island_lines : List ℕ → List ℕ
island_lines ms = lines_from ms 0 ms

-- the lines of the trees ts, joined by chains of the merged pairs that are one move apart
pub data IslandSheetOf (table : Trees) : List ℕ → Type 0 where
  shows_islands : (ps : List Pair) (ms : List ℕ) → Listing (length table.trees) (LinkedBy merged (ApartAs table.kind) table.trees) ps → MergedIslands table.trees ps ms
      → IslandSheetOf table (island_lines ms)

-- what the islands program prints for the text s
abbrev pub IslandSheet : List ℕ → List ℕ → Type 0
IslandSheet s x = Printout IslandSheetOf s x
