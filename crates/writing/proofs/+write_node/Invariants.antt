-- The leaves below the node.
use Rattle.meaning.specs.Tree.{leaves}
use Rattle.held.specs.Node.{subtree}
use Rattle.writing.proofs.+write_node.Given as goal

abbrev pub decreases-write_node : goal.decreases-write_node
decreases-write_node l = leaves (subtree l.node)
