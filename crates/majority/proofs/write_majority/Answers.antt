use Rattle.std.proofs.Common.{◌≡◌, ◌∙◌, arith, rules}
use Rattle.meaning.specs.Tree.{Tree as Topology, canon}
use Rattle.meaning.specs.Clade.{clade}
use Rattle.held.specs.Kept.{Keeps, held_at}
use Rattle.majority.proofs.Whole.{whole_room, end-room, majority-written, none_written}
use Rattle.majority.proofs.write_majority.Goals as goal
use Rattle.majority.proofs.write_majority.Goals.{After-new-whole}

pub returns-then-table-eq0 : goal.returns-then-table-eq0
returns-then-table-eq0 c = none_written c.if-table-eq0.true c.args.out.now

-- the label set is that of the first tree
whole : (w : After-new-whole) (t : Topology) → Keeps (held_at w.args.table 0) t → w.new-whole.result ≡ clade (canon t)
whole w t k = w.new-whole.ensures ∙ w.labels.ensures t k

pub write_clade-end-requires : goal.write_clade-end-requires
write_clade-end-requires c = whole_room c.requires c.above_half-k.ensures c.if-table-eq0.false (whole (goal.at.write_clade-end-requires c).After-new-whole)

pub bounds-out-end : goal.bounds-out-end
bounds-out-end c =
    let w = (goal.at.bounds-out-end c).After-new-whole in
    omega (arith, end-room c.requires c.above_half-k.ensures c.if-table-eq0.false (whole w) c.write_clade-end.ensures)

pub overflow_add-result : goal.overflow_add-result
overflow_add-result c =
    let w = (goal.at.overflow_add-result c).After-new-whole in
    let h = end-room c.requires c.above_half-k.ensures c.if-table-eq0.false (whole w) c.write_clade-end.ensures in
    search (rules, h)

pub returns : goal.returns
returns c = majority-written c.requires c.above_half-k.ensures c.if-table-eq0.false (whole (goal.at.returns c).After-new-whole) c.write_clade-end.ensures
