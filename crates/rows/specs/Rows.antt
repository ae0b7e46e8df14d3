-- What a clade of a row needs to be grown into the nodes of a held tree.
-- Assumes nothing.
use Rattle.std.specs.Prelude.{◌≡◌, true, List, ℕ, ◌+◌, ◌≤◌, length, drop}
use Rattle.meaning.specs.Tree.{Tree}
use Rattle.held.specs.Held.{nodes}
use Rattle.families.specs.Grown.{GrowsTo}
use Rattle.families.specs.Row.{is_row}
use Rattle.rows.specs.Places.{Placed, Noted}

-- it is a row, and all its places are noted
pub record RowNoted (row before last : List ℕ) : Type 0 where
  pub a_row : is_row row ≡ true
  pub noted : Noted row (length row) before last

-- c is the clade at a place of the row, a tree grows to it, and there is room for its nodes from `at` on
pub record GrowRoom (row : List ℕ) (place c at len : ℕ) : Type 0 where
  pub placed : Placed row place c
  pub tree : Tree
  pub grows : GrowsTo (drop 1 row) c tree
  pub room : at + nodes tree ≤ len
