-- The leaves below the node fall.
use Rattle.meaning.specs.Tree.{leaves}
use Rattle.held.specs.Node.{subtree}
use Rattle.held.proofs.+order.Given as goal

abbrev pub decreases-order : goal.decreases-order
decreases-order l = leaves (subtree l.node.now)
