-- Taking a tree out of an index in lent memory: the entries of the others stay.
-- Assumes nothing.
use Rattle.std.specs.Prelude.{Bool, not, List, map, ℕ, ◌≤◌, ◌<◌, eqb, length}
use Rattle.meaning.specs.Limits.{max_trees}
use Rattle.meaning.specs.Lists.{positions}
use Rattle.meaning.specs.Sorted.{keep}
use Rattle.meaning.specs.Listing.{Pair, flat}
use Rattle.holdings.specs.Slots.{Slot}
use Rattle.holdings.specs.Memory.{index_bytes, IsIndex, entry_in}

-- the entry e is of another number than x
abbrev pub is_other : ℕ → Pair → Bool
is_other x e = not (eqb e.0 x)

-- the bytes of those of the first n entries in memory that are
abbrev pub others_in : List ℕ → ℕ → ℕ → List ℕ
others_in memory n x = flat (keep (is_other x) (map (entry_in memory) (positions n)))

-- memory is an index, and x is a number
pub record Removable (memory : List ℕ) (x : ℕ) : Type 0 where
  pub slots : List Slot
  pub index : IsIndex slots memory
  pub long : index_bytes ≤ length memory
  pub inside : x < max_trees
