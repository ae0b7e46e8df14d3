-- The leaves below the node fall.
use Rattle.meaning.specs.Tree.{leaves}
use Rattle.held.specs.Node.{subtree}
use Rattle.held.proofs.+cut_node.Given as goal

abbrev pub decreases-cut_node : goal.decreases-cut_node
decreases-cut_node l = leaves (subtree l.node)
