-- What the writer of forest texts asks: a tree that is kept, one of its cuts, and room for the text.
-- Assumes nothing.
use Rattle.std.specs.Prelude.{ℕ, ◌+◌, ◌*◌, ◌-◌, ◌≤◌, ◌<◌, length}
use Rattle.meaning.specs.Tree.{Tree as Topology, leaves}
use Rattle.meaning.specs.Move.{cut_at, forest}
use Rattle.held.specs.Kept.{Keeps}
use Rattle.held.specs.declared.Tree.{Tree}

-- the record keeps a tree that has a cut number c, and from `at` on there is room for its forest text
pub record ForestFits (tree : Tree) (c at len : ℕ) : Type 0 where
  pub topology : Topology
  pub keeps : Keeps tree topology
  pub is_cut : c < 2 * leaves topology - 2
  pub room : at + length (forest (cut_at topology c)) ≤ len
