use Rattle.std.proofs.Common.{arith, get_or}
use Rattle.std.proofs.lemmas.List.{get_or_default}
use Rattle.std.proofs.lemmas.List.Edits.{map_over_more}
use Rattle.meaning.specs.Islands.{renumbered}
use Rattle.numbering.proofs.renumber.Goals as goal

pub loop-x-preserved : goal.loop-x-preserved
loop-x-preserved c =
    let ys = c.loop-x.x-items in
    let i = c.loop-x.x-index in
    let x = get_or ys i 0 in
    rw c.renumbered.ensures
    (map_over_more (renumbered c.args.from c.args.to) c.args.numbers.now ys i x (omega arith) c.loop-x.invariant (get_or_default ys i 0 x (omega arith)))
