-- A node's byte stands first in its subtree's run.
use Rattle.held.proofs.Laws.{within}
use Rattle.held.proofs.Subtree.{node-holds, node-byte}
use Rattle.held.proofs.node.Node.byte.Goals as goal

pub bounds-self-self : goal.bounds-self-self
bounds-self-self c = within (node-holds c.args.self)

pub returns : goal.returns
returns c = node-byte c.args.self
