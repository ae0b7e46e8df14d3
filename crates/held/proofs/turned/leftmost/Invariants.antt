-- The node is on the leftmost path, and the leaves below it fall.
use Rattle.std.proofs.Common.{◌≡◌}
use Rattle.meaning.specs.Tree.{Tree, leaves}
use Rattle.held.specs.Node.{subtree}
use Rattle.held.specs.Turning.{Turning}
use Rattle.held.proofs.turned.leftmost.Given as goal

abbrev pub invariant-loop-first : goal.invariant-loop-first
invariant-loop-first l =
    (l.node.tree.now ≡ l.top.tree.now) × ((t up : Tree) → Turning t l.top.at (subtree l.top) up → (above : Tree) × Turning t l.node.at (subtree l.node) above)

abbrev pub decreases-loop-first : goal.decreases-loop-first
decreases-loop-first l = leaves (subtree l.node)
