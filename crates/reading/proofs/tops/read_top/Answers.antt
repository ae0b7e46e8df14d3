-- A rooted tree's top is a node.
use Rattle.reading.proofs.Opening.{top-rooted}
use Rattle.reading.proofs.tops.read_top.Goals as goal

pub returns-in-Rooted : goal.returns-in-Rooted
returns-in-Rooted c = rw c.in-Rooted.is (top-rooted c.args.s.now c.args.from _ _ c.requires _ c.read_node.ensures)
