use Rattle.std.proofs.Common.{rules, ◌≡◌, ◌+◌, ◌<◌, length, arith}
use Rattle.meaning.specs.Tree.{canon}
use Rattle.held.specs.Held.{nodes}
use Rattle.held.proofs.Laws.{some-nodes, few-nodes}
use Rattle.held.proofs.Kept.{keeps-holds, kept-held}
use Rattle.held.proofs.Subtree.{at-node, at-each}
use Rattle.prints.proofs.Rest.{room-at}
use Rattle.pairs.proofs.Ordered.{kept_whole}
use Rattle.prints.proofs.Keys.{Printed, rest-room, key_fits, keys_none, keys-more, keys-noted}
use Rattle.prints.proofs.note_keys.Goals as goal

pub note-requires : goal.note-requires
note-requires c = kept_whole c.requires.0

pub note-requires-2 : goal.note-requires-2
note-requires-2 c = (kept_whole c.requires.0, c.note.ensures)

pub new-root-requires : goal.new-root-requires
new-root-requires c = kept-held c.requires.0

pub loop-p-init : goal.loop-p-init
loop-p-init c = keys_none _ _ _ _

pub note_rest-requires : goal.note_rest-requires
note_rest-requires c =
    let printed : Printed c.args.tree.node c.note.new.m c.note-2.new.f = record { whole = kept_whole c.requires.0; clades = c.note.ensures; prints = c.note-2.ensures } in
    room-at (at-node c.new-root.result c.new-root.ensures printed.whole.holds) c.new-root.ensures.0 c.new-root.ensures.1 (rest-room printed)

pub overflow_sub-cuts : goal.overflow_sub-cuts
overflow_sub-cuts c =
    let printed : Printed c.args.tree.node c.note.new.m c.note-2.new.f = record { whole = kept_whole c.requires.0; clades = c.note.ensures; prints = c.note-2.ensures } in
    let w = printed.whole in
    let many = at-each nodes c.new-root.result c.new-root.ensures c.width-cuts.ensures w.tree w.holds in
    omega (arith, many, some-nodes w.tree)

pub overflow_add-p-end : goal.overflow_add-p-end
overflow_add-p-end c =
    let printed : Printed c.args.tree.node c.note.new.m c.note-2.new.f = record { whole = kept_whole c.requires.0; clades = c.note.ensures; prints = c.note-2.ensures } in
    let w = printed.whole in
    let many = at-each nodes c.new-root.result c.new-root.ensures c.width-cuts.ensures w.tree w.holds in
    omega (arith, many, few-nodes w.good)

pub bounds-f-p : goal.bounds-f-p
bounds-f-p c =
    let printed : Printed c.args.tree.node c.note.new.m c.note-2.new.f = record { whole = kept_whole c.requires.0; clades = c.note.ensures; prints = c.note-2.ensures } in
    let w = printed.whole in
    let many = at-each nodes c.new-root.result c.new-root.ensures c.width-cuts.ensures w.tree w.holds in
    omega (arith, c.loop-p-test.true, many, few-nodes w.good)

pub bounds-rest-p : goal.bounds-rest-p
bounds-rest-p c =
    let printed : Printed c.args.tree.node c.note.new.m c.note-2.new.f = record { whole = kept_whole c.requires.0; clades = c.note.ensures; prints = c.note-2.ensures } in
    let w = printed.whole in
    let many = at-each nodes c.new-root.result c.new-root.ensures c.width-cuts.ensures w.tree w.holds in
    omega (arith, c.loop-p-test.true, many, few-nodes w.good)

pub overflow_add-pruned : goal.overflow_add-pruned
overflow_add-pruned c =
    let printed : Printed c.args.tree.node c.note.new.m c.note-2.new.f = record { whole = kept_whole c.requires.0; clades = c.note.ensures; prints = c.note-2.ensures } in
    let w = printed.whole in
    let many = at-each nodes c.new-root.result c.new-root.ensures c.width-cuts.ensures w.tree w.holds in
    omega (arith, key_fits printed (rw (at-node c.new-root.result c.new-root.ensures w.holds, c.new-root.ensures.1) at c.note_rest.ensures) c.loop-p.p (omega arith) (omega (arith, c.loop-p-test.true, many)))

pub bounds-keys-at : goal.bounds-keys-at
bounds-keys-at c =
    let printed : Printed c.args.tree.node c.note.new.m c.note-2.new.f = record { whole = kept_whole c.requires.0; clades = c.note.ensures; prints = c.note-2.ensures } in
    let w = printed.whole in
    let many = at-each nodes c.new-root.result c.new-root.ensures c.width-cuts.ensures w.tree w.holds in
    omega (arith, c.loop-p-test.true, many, few-nodes w.good, c.requires.1, c.loop-p.invariant.long)

pub loop-p-preserved : goal.loop-p-preserved
loop-p-preserved c =
    let printed : Printed c.args.tree.node c.note.new.m c.note-2.new.f = record { whole = kept_whole c.requires.0; clades = c.note.ensures; prints = c.note-2.ensures } in
    let w = printed.whole in
    let many = at-each nodes c.new-root.result c.new-root.ensures c.width-cuts.ensures w.tree w.holds in
    let room : c.args.at + c.loop-p.p < length c.loop-p.keys = omega (arith, c.loop-p-test.true, many, few-nodes w.good, c.requires.1, c.loop-p.invariant.long) in
    rw c.folded.ensures (keys-more (omega arith) room c.loop-p.invariant)

pub returns : goal.returns
returns c t k =
    let printed : Printed c.args.tree.node c.note.new.m c.note-2.new.f = record { whole = kept_whole c.requires.0; clades = c.note.ensures; prints = c.note-2.ensures } in
    let w = printed.whole in
    let many = at-each nodes c.new-root.result c.new-root.ensures c.width-cuts.ensures w.tree w.holds in
    let all : c.loop-p.p ≡ nodes w.tree = omega (arith, c.loop-p-test.false, many, some-nodes w.tree) in
    keys-noted printed (rw (at-node c.new-root.result c.new-root.ensures w.holds, c.new-root.ensures.1) at c.note_rest.ensures) all c.loop-p.invariant (canon t) (keeps-holds k)

pub offset_bounds-f-p : goal.offset_bounds-f-p
offset_bounds-f-p c =
    let printed : Printed c.args.tree.node c.note.new.m c.note-2.new.f = record { whole = kept_whole c.requires.0; clades = c.note.ensures; prints = c.note-2.ensures } in
    let w = printed.whole in
    let many = at-each nodes c.new-root.result c.new-root.ensures c.width-cuts.ensures w.tree w.holds in
    omega (arith, c.loop-p-test.true, many, few-nodes w.good)

pub offset_bounds-rest-p : goal.offset_bounds-rest-p
offset_bounds-rest-p c =
    let printed : Printed c.args.tree.node c.note.new.m c.note-2.new.f = record { whole = kept_whole c.requires.0; clades = c.note.ensures; prints = c.note-2.ensures } in
    let w = printed.whole in
    let many = at-each nodes c.new-root.result c.new-root.ensures c.width-cuts.ensures w.tree w.holds in
    omega (arith, c.loop-p-test.true, many, few-nodes w.good)

pub overflow_add-keys : goal.overflow_add-keys
overflow_add-keys c =
    let printed : Printed c.args.tree.node c.note.new.m c.note-2.new.f = record { whole = kept_whole c.requires.0; clades = c.note.ensures; prints = c.note-2.ensures } in
    let w = printed.whole in
    let many = at-each nodes c.new-root.result c.new-root.ensures c.width-cuts.ensures w.tree w.holds in
    let room : c.args.at + c.loop-p.p < length c.loop-p.keys = omega (arith, c.loop-p-test.true, many, few-nodes w.good, c.requires.1, c.loop-p.invariant.long) in
    search (rules, room)

pub offset_bounds-keys-at : goal.offset_bounds-keys-at
offset_bounds-keys-at c =
    let printed : Printed c.args.tree.node c.note.new.m c.note-2.new.f = record { whole = kept_whole c.requires.0; clades = c.note.ensures; prints = c.note-2.ensures } in
    let w = printed.whole in
    let many = at-each nodes c.new-root.result c.new-root.ensures c.width-cuts.ensures w.tree w.holds in
    let room : c.args.at + c.loop-p.p < length c.loop-p.keys = omega (arith, c.loop-p-test.true, many, few-nodes w.good, c.requires.1, c.loop-p.invariant.long) in
    search (rules, room)
