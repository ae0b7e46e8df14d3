-- The leaves below the node fall.
use Rattle.meaning.specs.Tree.{leaves}
use Rattle.held.specs.Node.{subtree}
use Rattle.held.proofs.+note_smallest.Given as goal

abbrev pub decreases-note_smallest : goal.decreases-note_smallest
decreases-note_smallest l = leaves (subtree l.node)
