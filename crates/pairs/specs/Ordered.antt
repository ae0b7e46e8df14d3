-- Held trees in canonical order, and held forks.
-- Assumes nothing.
use Rattle.std.specs.Prelude.{◌≡◌, List, ℕ, length}
use Rattle.meaning.specs.Limits.{max_nodes}
use Rattle.meaning.specs.Tree.{Tree, fork, Distinct, Canonical}
use Rattle.held.specs.Held.{Holds}

-- distinct labels, and the child with the smaller least label first at every fork
pub record InOrder (t : Tree) : Type 0 where
  pub distinct : Distinct t
  pub canonical : Canonical t

-- the bytes xs hold such a tree from the start on, and are as many as a tree can have nodes
pub record HeldInOrder (xs : List ℕ) : Type 0 where
  pub tree : Tree
  pub holds : Holds xs 0 tree
  pub in_order : InOrder tree
  pub long : length xs ≡ max_nodes

-- the bytes xs hold a fork at the node k
pub record HeldFork (xs : List ℕ) (k : ℕ) : Type 0 where
  pub first : Tree
  pub second : Tree
  pub holds : Holds xs k (fork first second)
