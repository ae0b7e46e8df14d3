-- The depth of the node falls.
use Rattle.held.proofs.turned.+write_above.Given as goal

abbrev pub decreases-write_above : goal.decreases-write_above
decreases-write_above l = l.node.at
