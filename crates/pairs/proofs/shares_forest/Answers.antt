-- `pairs::shares_forest` meets its contract.
-- Assumes nothing.
use Rattle.pairs.proofs.Ordered.{kept-in-order, kept-good, kept_whole}
use Rattle.pairs.proofs.shares_forest.Goals as goal

pub note-requires : goal.note-requires
note-requires c = kept_whole c.requires.0

pub note-requires-2 : goal.note-requires-2
note-requires-2 c = kept_whole c.requires.1

pub find_forest-requires : goal.find_forest-requires
find_forest-requires c =
    let p = c.requires in
    (record { whole = kept-in-order p.0; good = kept-good p.0; marks = c.note.ensures }, record { whole = kept-in-order p.1; good = kept-good p.1; marks = c.note-2.ensures })
