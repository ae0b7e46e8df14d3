-- The leaves below the node.
use Rattle.meaning.specs.Tree.{leaves}
use Rattle.held.specs.Node.{subtree}
use Rattle.plotting.proofs.+place_node.Given as goal

abbrev pub decreases-place_node : goal.decreases-place_node
decreases-place_node l = leaves (subtree l.node)
