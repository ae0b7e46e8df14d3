-- What the writer of the islands' lines asks of their numbers, and of the room for the lines.
-- Assumes nothing.
use Rattle.std.specs.Prelude.{List, ℕ, ◌≤◌, ◌<◌, length, get_or}
use Rattle.meaning.specs.Limits.{max_trees, island_sheet_bytes}

-- `numbers` begins with those of n positions, each of which is a position that a table can have, and there is room for a line of each
pub record IslandLinesFit (numbers : List ℕ) (n len : ℕ) : Type 0 where
  pub few : n ≤ max_trees
  pub lent : n ≤ length numbers
  pub below : (i : ℕ) → i < n → get_or numbers i 0 < max_trees
  pub room : island_sheet_bytes ≤ len
