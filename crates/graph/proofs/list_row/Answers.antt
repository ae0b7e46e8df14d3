use Rattle.std.proofs.Common.{[], refl, arith}
use Rattle.meaning.proofs.Listing.{row-end}
use Rattle.graph.proofs.Turns.{none-listed, pair-listed, part-more, part-ends, next-room, pair-room, row-takes, row-skips}
use Rattle.graph.proofs.list_row.Goals as goal
use Rattle.graph.proofs.list_row.Goals.{then-linked, else-linked}

pub loop-j-init : goal.loop-j-init
loop-j-init c = record { done = []; whole = refl; listed = none-listed }

pub add_pair-next-requires : goal.add_pair-next-requires
add_pair-next-requires c =
    let links = c.args.links.now in
    let inside = c.loop-j-test.true in
    pair-room (omega arith) inside (next-room c.loop-j.invariant _ (row-takes links _ _ _ inside c.if-linked.true) c.requires.1)

pub loop-j-preserved : goal.loop-j-preserved
loop-j-preserved c =
    let links = c.args.links.now in
    let inside = c.loop-j-test.true in
    elim c.if-linked.branch [
      | then-linked w ↦ rw (w.pairs-is, w.counts-is, w.next-is) (part-more c.loop-j.invariant (row-takes links _ _ _ inside w.if-linked.true) (pair-listed w.add_pair-next.ensures))
      | else-linked w ↦ rw (w.pairs-is, w.counts-is, w.next-is) (part-more c.loop-j.invariant (row-skips links _ _ _ inside w.if-linked.false) none-listed)
    ]

pub returns : goal.returns
returns c = part-ends c.loop-j.invariant (row-end _ _ _ _ c.loop-j-test.false)
