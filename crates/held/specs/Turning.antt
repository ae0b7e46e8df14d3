-- The leftmost path of a tree in canonical order, which is turned round where an unrooted tree is hung at its smallest label.
-- Assumes nothing.
use Rattle.std.specs.Prelude.{◌≡◌, ℕ, ◌+◌, ◌≤◌}
use Rattle.meaning.specs.Tree.{Tree, leaf, fork}
use Rattle.held.specs.Held.{nodes}
use Rattle.held.specs.Node.{subtree}
use Rattle.held.specs.declared.node.Node.{Node}

-- s stands at depth k of the leftmost path of t, below the root; `up` is what is above it, turned round
pub data Turning (t : Tree) : ℕ → Tree → Tree → Type 0 where
  start : (a b : Tree) → t ≡ fork a b → Turning t 1 a b
  deeper : (k : ℕ) (a b up : Tree) → Turning t k (fork a b) up → Turning t (k + 1) a (fork up b)

-- y is the leaf at which the leftmost path from x ends, in each tree in whose path x is
pub record Leftmost (x y : Node) : Type 0 where
  pub same : y.tree.now ≡ x.tree.now
  pub label : ℕ
  pub is : subtree y ≡ leaf label
  pub way : (t up : Tree) → Turning t x.at (subtree x) up → (above : Tree) × Turning t y.at (subtree y) above

-- the node is on the leftmost path below the root, and from `at` on there is room for what is above it
pub record TurnRoom (root node : Node) (len at : ℕ) : Type 0 where
  pub same : node.tree.now ≡ root.tree.now
  pub start : root.at ≡ 0
  pub above : Tree
  pub way : Turning (subtree root) node.at (subtree node) above
  pub room : at + nodes above ≤ len
