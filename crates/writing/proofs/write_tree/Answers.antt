use Rattle.std.proofs.Common.{length, ap, arith}
use Rattle.std.proofs.Math.ListN.{length-append}
use Rattle.meaning.specs.Tree.{Tree, canon, write}
use Rattle.meaning.specs.Unrooted.{write_unrooted, mark}
use Rattle.lent.proofs.Runs.{wrote-more, wrote-length}
use Rattle.held.proofs.Kept.{keeps-holds}
use Rattle.held.proofs.Subtree.{at-node}
use Rattle.writing.proofs.Unrooted.{rooted-text, unrooted-text}
use Rattle.writing.proofs.write_tree.Goals as goal

pub new-root-requires : goal.new-root-requires
new-root-requires c = record { tree = canon c.requires.kinded.tree; holds = keeps-holds c.requires.keeps.keeps }

pub write_node-requires : goal.write_node-requires
write_node-requires c =
    let p = c.requires in
    let root = at-node c.new-root.result c.new-root.ensures (keeps-holds p.keeps.keeps) in
    omega (arith, p.room, ap length (rooted-text p.keeps c.in-Rooted.is), ap (λ (t : Tree). length (write t)) root)

pub returns-in-Rooted : goal.returns-in-Rooted
returns-in-Rooted c x k = rw (rooted-text k c.in-Rooted.is, ← at-node c.new-root.result c.new-root.ensures (keeps-holds k.keeps)) c.write_node.ensures

pub write_text-top-requires : goal.write_text-top-requires
write_text-top-requires c =
    let p = c.requires in
    omega (arith, p.room, ap length (unrooted-text p.keeps c.in-Unrooted.is), length-append mark (write_unrooted (canon p.kinded.tree)))

pub write_unrooted-requires : goal.write_unrooted-requires
write_unrooted-requires c =
    let p = c.requires in
    let e = c.write_text-top.ensures in
    let root = at-node c.new-root.result c.new-root.ensures (keeps-holds p.keeps.keeps) in
    omega (
      arith,
      p.room,
      ap length (unrooted-text p.keeps c.in-Unrooted.is),
      length-append mark (write_unrooted (canon p.kinded.tree)),
      e.behind,
      wrote-length e,
      ap (λ (t : Tree). length (write_unrooted t)) root,
    )

pub returns-in-Unrooted : goal.returns-in-Unrooted
returns-in-Unrooted c x k =
    rw (unrooted-text k c.in-Unrooted.is, ← at-node c.new-root.result c.new-root.ensures (keeps-holds k.keeps)) (wrote-more c.write_text-top.ensures c.write_unrooted.ensures)
