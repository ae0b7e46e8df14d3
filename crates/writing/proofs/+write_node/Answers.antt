use Rattle.std.proofs.Common.{arith}
use Rattle.std.proofs.Math.ListN.{length-set}
use Rattle.held.proofs.Subtree.{first-fewer, second-fewer}
use Rattle.lent.proofs.Runs.{wrote-length}
use Rattle.writing.proofs.Laws.{fork-room, wrote-both}
use Rattle.writing.proofs.+write_node.Goals as goal

pub write_node-comma-requires : goal.write_node-comma-requires
write_node-comma-requires t c =
    let k = c.in-Fork.ensures in
    (omega (arith, first-fewer k), simp length-set (omega (arith, fork-room k.is)))

pub write_node-close-requires : goal.write_node-close-requires
write_node-close-requires t c =
    let k = c.in-Fork.ensures in
    let w = c.write_node-comma.ensures in
    (omega (arith, second-fewer k), simp length-set (omega (arith, fork-room k.is, w.behind, wrote-length w, length-set c.args.out.now c.args.at 40)))

pub returns-in-Fork : goal.returns-in-Fork
returns-in-Fork t c = wrote-both c.in-Fork.ensures.is c.write_node-comma.ensures c.write_node-close.ensures
