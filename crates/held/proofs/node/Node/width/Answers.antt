-- A tree has one node fewer than twice its leaves.
use Rattle.std.proofs.Common.{arith}
use Rattle.meaning.proofs.Labels.{some-leaves}
use Rattle.held.specs.Node.{subtree}
use Rattle.held.proofs.Laws.{twice}
use Rattle.held.proofs.node.Node.width.Goals as goal

pub overflow_sub-result : goal.overflow_sub-result
overflow_sub-result c = omega (arith, c.leaves.ensures, c.from.ensures, some-leaves (subtree c.args.self))

pub returns : goal.returns
returns c = omega (arith, c.leaves.ensures, c.from.ensures, twice (subtree c.args.self))
