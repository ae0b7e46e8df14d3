-- The byte tells a leaf from a fork.
use Rattle.std.proofs.Common.{ap, arith}
use Rattle.meaning.specs.Tree.{leaves}
use Rattle.held.specs.Node.{subtree}
use Rattle.held.proofs.Subtree.{node-holds, leaf_by, leaves-by}
use Rattle.held.proofs.node.Node.leaves.Goals as goal

pub returns-then-b-le-FORK : goal.returns-then-b-le-FORK
returns-then-b-le-FORK c = omega (arith, ap leaves (leaf_by (subtree c.args.self) (omega (arith, c.byte-b.ensures))))

pub returns-else-b-le-FORK : goal.returns-else-b-le-FORK
returns-else-b-le-FORK c = omega (arith, c.byte-b.ensures, leaves-by (subtree c.args.self) (node-holds c.args.self).small (omega (arith, c.byte-b.ensures)))
