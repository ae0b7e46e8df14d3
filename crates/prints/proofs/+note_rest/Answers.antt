-- Both children's nodes get their share of the fork, and then the walk goes on in each.
use Rattle.std.proofs.Common.{refl, arith}
use Rattle.held.specs.Node.{subtree}
use Rattle.held.proofs.Laws.{some-nodes}
use Rattle.held.proofs.Subtree.{children-nodes, first-fewer, second-fewer}
use Rattle.prints.proofs.Rest.{room-at, rest-fork, pass-first, pass-second, room-first, room-second, fork-rest}
use Rattle.prints.proofs.+note_rest.Goals as goal

pub bounds-f-second : goal.bounds-f-second
bounds-f-second t c = omega (arith, children-nodes c.in-Fork.ensures, c.in-Fork.ensures.second_at, c.requires.room, some-nodes (subtree c.in-Fork.second))

pub offset_bounds-f-second : goal.offset_bounds-f-second
offset_bounds-f-second t c = omega (arith, children-nodes c.in-Fork.ensures, c.in-Fork.ensures.second_at, c.requires.room, some-nodes (subtree c.in-Fork.second))

pub pass-requires : goal.pass-requires
pass-requires t c = pass-first (rest-fork c.in-Fork.ensures c.width.ensures c.requires)

pub bounds-f-first : goal.bounds-f-first
bounds-f-first t c = omega (arith, children-nodes c.in-Fork.ensures, c.in-Fork.ensures.first_at, c.requires.room, some-nodes (subtree c.in-Fork.second))

pub pass-requires-2 : goal.pass-requires-2
pass-requires-2 t c = pass-second (rest-fork c.in-Fork.ensures c.width.ensures c.requires) c.pass.ensures

pub note_rest-requires : goal.note_rest-requires
note_rest-requires t c =
    let k = c.in-Fork.ensures in
    (omega (arith, first-fewer k), room-at refl k.first_in refl (room-first (rest-fork k c.width.ensures c.requires) c.pass.ensures c.pass-2.ensures))

pub note_rest-requires-2 : goal.note_rest-requires-2
note_rest-requires-2 t c =
    let k = c.in-Fork.ensures in
    (omega (arith, second-fewer k), room-at refl k.second_in refl (room-second (rest-fork k c.width.ensures c.requires) c.pass.ensures c.pass-2.ensures c.note_rest.ensures))

pub returns : goal.returns
returns t c = fork-rest (rest-fork c.in-Fork.ensures c.width.ensures c.requires) c.pass.ensures c.pass-2.ensures c.note_rest.ensures c.note_rest-2.ensures
