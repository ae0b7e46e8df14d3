-- Each turn counts one number more.
use Rattle.std.proofs.Common.{◌<◌, ◌∙◌, arith}
use Rattle.std.proofs.Math.Seq.{length-take-le}
use Rattle.std.proofs.lemmas.List.{get_or-take}
use Rattle.lent.proofs.Tallies.{turn-grows, turn-tallied}
use Rattle.lent.proofs.tally.Goals as goal

pub overflow_add-tallies : goal.overflow_add-tallies
overflow_add-tallies c =
    let turn : c.loop-x.x-index < c.args.n = omega (arith, length-take-le c.args.n c.args.numbers.now c.requires.lent) in
    omega (arith, turn-grows c.requires c.loop-x.x-index turn c.loop-x.invariant c.from.result)

pub loop-x-preserved : goal.loop-x-preserved
loop-x-preserved c =
    let turn : c.loop-x.x-index < c.args.n = omega (arith, length-take-le c.args.n c.args.numbers.now c.requires.lent) in
    let x = c.from.ensures ∙ get_or-take c.args.n c.args.numbers.now c.loop-x.x-index 0 turn in
    rw x (turn-tallied c.requires c.loop-x.x-index turn c.loop-x.invariant)
