-- Forests that two trees share, cut by cut as the trees are held, and what the pair test tells.
-- Assumes nothing.
use Rattle.std.specs.Prelude.{◌≡◌, List, ℕ, ◌<◌, length}
use Rattle.meaning.specs.Tree.{Tree, Good, canon}
use Rattle.meaning.specs.Move.{Cut, cuts, Shares, Apart}
use Rattle.meaning.specs.Clade.{clade}
use Rattle.meaning.specs.Compared.{through, compared}
use Rattle.lent.specs.Runs.{Says}
use Rattle.held.specs.Held.{Holds, cut_in}
use Rattle.clades.specs.Marks.{Noted}
use Rattle.pairs.specs.Ordered.{InOrder, HeldInOrder}
use Rattle.pairs.specs.declared.Comparison.{Comparison}

-- xs holds a tree in order that has a cut number c
pub record OrderedCut (xs : List ℕ) (c : ℕ) : Type 0 where
  pub tree : Tree
  pub holds : Holds xs 0 tree
  pub in_order : InOrder tree
  pub is_cut : c < length (cuts tree)

-- xs holds a good tree in order from the start on, and m has the clades of its nodes
pub record Marked (xs m : List ℕ) : Type 0 where
  pub whole : HeldInOrder xs
  pub good : Good whole.tree
  pub marks : Noted clade xs m

-- two cuts take the same subtree away and leave trees of one canonical form
pub record SameForest (c d : Cut) : Type 0 where
  pub pruned : c.pruned ≡ d.pruned
  pub rest : canon c.rest ≡ canon d.rest

-- a cut of each tree, as the trees are written, has the same forest
abbrev pub SharesForest : Tree → Tree → Type 0
SharesForest t u = Shares (λ (c : ℕ). c < length (cuts t)) (λ (d : ℕ). d < length (cuts u)) (λ c d. SameForest (cut_in t c) (cut_in u d))

-- what the search tells: whether t and u share a forest, and how many were compared
pub record Searched (t u : Tree) (r : Comparison) : Type 0 where
  pub shares : Says r.yes (SharesForest t u)
  pub number : r.forests ≡ through (cuts u) (cuts t)

-- what the pair test tells: whether t and u are one move apart, and how many forests were compared
pub record Tested (t u : Tree) (r : Comparison) : Type 0 where
  pub apart : Says r.yes (Apart t u)
  pub number : r.forests ≡ compared t u
