-- Numbers noted beside the nodes of a held tree.
-- Assumes nothing.
use Rattle.std.specs.Prelude.{◌≡◌, List, ℕ, ◌≤◌, ◌<◌, get_or}
use Rattle.meaning.specs.Limits.{max_nodes}
use Rattle.meaning.specs.Tree.{Tree, Good}
use Rattle.held.specs.Held.{nodes, Holds}

-- xs holds a good tree, and len numbers are room for those of its nodes
pub record Whole (xs : List ℕ) (len : ℕ) : Type 0 where
  pub tree : Tree
  pub holds : Holds xs 0 tree
  pub good : Good tree
  pub room : max_nodes ≤ len

-- m has from `from` up to `to` at each node of xs the number that f has for the subtree there
abbrev pub Marks : (Tree → ℕ) → List ℕ → List ℕ → ℕ → ℕ → Type 0
Marks f xs m from to = (k : ℕ) → from ≤ k → k < to → (s : Tree) → Holds xs k s → get_or m k 0 ≡ f s

-- it has them for the whole tree
abbrev pub Noted : (Tree → ℕ) → List ℕ → List ℕ → Type 0
Noted f xs m = (t : Tree) → Holds xs 0 t → Marks f xs m 0 (nodes t)
