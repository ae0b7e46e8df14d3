-- A tree in order, with zeros behind it, fills the slot.
use Rattle.held.specs.Held.{nodes}
use Rattle.held.proofs.Subtree.{at-each}
use Rattle.slot_check.proofs.Slots.{full-none, holds-some, full-told}
use Rattle.slot_check.proofs.labels_of.Goals as goal

pub returns-in_err-labels : goal.returns-in_err-labels
returns-in_err-labels c = rw c.from_residual.ensures (full-none c.in_err-labels.ensures)

pub new-root-requires : goal.new-root-requires
new-root-requires c = holds-some c.in_ok-labels.ensures

pub returns : goal.returns
returns c =
    rw c.then_some.ensures
    (full-told c.in_ok-labels.ensures c.width.result (at-each nodes c.new-root.result c.new-root.ensures c.width.ensures) c.requires c.all_zero-alone.result c.all_zero-alone.ensures)
