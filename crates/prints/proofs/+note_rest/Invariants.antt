-- The leaves below the node.
use Rattle.meaning.specs.Tree.{leaves}
use Rattle.held.specs.Node.{subtree}
use Rattle.prints.proofs.+note_rest.Given as goal

abbrev pub decreases-note_rest : goal.decreases-note_rest
decreases-note_rest l = leaves (subtree l.node)
