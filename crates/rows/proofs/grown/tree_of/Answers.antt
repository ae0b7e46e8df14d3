use Rattle.families.specs.Row.{row_tree}
use Rattle.rows.proofs.Nodes.{grown-low}
use Rattle.rows.proofs.Places.{row-some}
use Rattle.rows.proofs.Whole.{row-grows, row_room, row_kept}
use Rattle.rows.proofs.grown.tree_of.Goals as goal

pub bounds-row-0 : goal.bounds-row-0
bounds-row-0 c = row-some c.args.row.now c.requires

pub last_like-requires : goal.last_like-requires
last_like-requires c = rw c.new-s.ensures (grown-low (row-grows c.args.row.now c.requires))

pub grow-requires : goal.grow-requires
grow-requires c = rw (c.last_like.ensures, c.new-places.ensures, c.new-s.ensures) (row_room c.args.row.now c.requires)

pub returns : goal.returns
returns c =
    let grows = row-grows c.args.row.now c.requires in
    row_kept c.args.row.now c.requires (c.grow.ensures (row_tree c.args.row.now) (rw (c.new-places.ensures, c.new-s.ensures) grows))
