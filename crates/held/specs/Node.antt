-- The subtree at a node, and what the node shows.
-- Assumes nothing.
use Rattle.std.specs.Prelude.{◌≡◌, ◌+◌, ◌-◌, ◌<◌}
use Rattle.meaning.specs.Tree.{Tree, leaf, fork}
use Rattle.meaning.specs.Move.{Cut}
use Rattle.held.specs.Held.{nodes, cut_in}
use Rattle.held.specs.Subtree.{subtree_at}
use Rattle.held.specs.declared.node.Node.{Node}
use Rattle.held.specs.declared.node.Shape.{Shape}
use Rattle.held.specs.declared.node.Shape.TheVariants.{Leaf, Fork}

-- the subtree that stands at the node
abbrev pub subtree : Node → Tree
subtree x = subtree_at x.tree.now x.at

-- a and b are the children of x: the first is the next node, and the second stands behind its subtree
pub record Children (x a b : Node) : Type 0 where
  pub is : subtree x ≡ fork (subtree a) (subtree b)
  pub first_in : a.tree.now ≡ x.tree.now
  pub second_in : b.tree.now ≡ x.tree.now
  pub first_at : a.at ≡ x.at + 1
  pub second_at : b.at ≡ x.at + 1 + nodes (subtree a)

-- x is a leaf of this label, or a fork of these children
abbrev pub Shows : Node → Shape → Type 0
Shows x (Leaf l) = subtree x ≡ leaf l
Shows x (Fork a b) = Children x a b

-- the node y is below x, in the same bytes
pub record Below (x y : Node) : Type 0 where
  pub same : y.tree.now ≡ x.tree.now
  pub behind : x.at < y.at
  pub inside : y.at < x.at + nodes (subtree x)

-- the cut of x's subtree at the node y below it
abbrev pub cut_below : Node → Node → Cut
cut_below x y = cut_in (subtree x) (y.at - (x.at + 1))
