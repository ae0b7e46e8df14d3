-- The clades of a tree's forks noted in a slice, in the order of its nodes.
-- Assumes nothing.
use Rattle.std.specs.Prelude.{List, [], ◌∷◌, ◌++◌, ℕ, ◌+◌, ◌≤◌, length}
use Rattle.meaning.specs.Limits.{max_label}
use Rattle.meaning.specs.Tree.{Tree as Topology, leaf, fork}
use Rattle.meaning.specs.Clade.{clade}
use Rattle.held.specs.Kept.{Kept}
use Rattle.held.specs.declared.Tree.{Tree}

-- what a node adds: a fork its clade, a leaf nothing
abbrev pub own_clades : Topology → List ℕ
own_clades (leaf l) = []
own_clades (fork a b) = (clade a + clade b) ∷ []

-- the lists one after another
abbrev pub joined : List (List ℕ) → List ℕ
joined [] = []
joined (xs ∷ xss) = xs ++ joined xss

-- the record keeps a tree, and there is room for its clades from `at` on, at most 63
pub record NoteRoom (tree : Tree) (xs : List ℕ) (at : ℕ) : Type 0 where
  pub kept : Kept tree
  pub room : at + max_label ≤ length xs + 1
