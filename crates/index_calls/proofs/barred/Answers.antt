-- The line that stands against a number.
use Rattle.holdings.specs.Memory.{Valid}
use Rattle.holdings.proofs.Memory.{index-shelved}
use Rattle.slots.proofs.Shelving.{some-tree}
use Rattle.index_calls.specs.Removed.{Barred, short, lacking, fine}
use Rattle.index_calls.proofs.Calling.{valid-shelves, none-there}
use Rattle.index_calls.proofs.barred.Goals as goal

pub returns-then-not-fits : goal.returns-then-not-fits
returns-then-not-fits c = rw c.if-not-fits.true short

pub returns-then-not-is_index : goal.returns-then-not-is_index
returns-then-not-is_index c = rw c.if-not-fits.false (Barred.foreign c.if-not-is_index.ensures)

pub has_tree-requires : goal.has_tree-requires
has_tree-requires c = valid-shelves (c.requires c.if-not-fits.false) c.if-not-is_index.ensures

pub returns-then-not-has_tree : goal.returns-then-not-has_tree
returns-then-not-has_tree c =
    let v : Valid c.args.memory.now = c.if-not-is_index.ensures in
    rw c.if-not-fits.false (lacking v (none-there _ (c.if-not-has_tree.ensures v.slots (index-shelved (c.requires c.if-not-fits.false) v.index))))

pub returns : goal.returns
returns c =
    let v : Valid c.args.memory.now = c.if-not-is_index.ensures in
    let (t, e) = some-tree _ (c.if-not-has_tree.ensures v.slots (index-shelved (c.requires c.if-not-fits.false) v.index)) in
    rw c.if-not-fits.false (fine v t e)
