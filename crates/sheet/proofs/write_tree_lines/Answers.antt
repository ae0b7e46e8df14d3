use Rattle.std.proofs.Common.{refl, arith}
use Rattle.sheet.proofs.Listed.{numbers-long}
use Rattle.sheet.proofs.Turns.{tree-fits, trees-more, trees-done}
use Rattle.sheet.proofs.write_tree_lines.Goals as goal

pub note_unlinked-requires : goal.note_unlinked-requires
note_unlinked-requires c =
    let p = c.requires in
    record { trees = p.trees; linked = p.linked; listed = p.listed; room = p.listed.keeps.all.few }

pub loop-i-init : goal.loop-i-init
loop-i-init c ts ps L = record { behind = omega arith; cells = refl }

pub bounds-counts-i : goal.bounds-counts-i
bounds-counts-i c = let L = c.requires.listed in omega (arith, L.keeps.all.count, numbers-long L)

pub write_tree_line-next-requires : goal.write_tree_line-next-requires
write_tree_line-next-requires c = tree-fits c.loop-i.invariant c.note_unlinked.ensures c.loop-i-test.true c.requires

pub loop-i-preserved : goal.loop-i-preserved
loop-i-preserved c = trees-more c.loop-i.invariant c.note_unlinked.ensures c.loop-i-test.true c.write_tree_line-next.ensures

pub returns : goal.returns
returns c = trees-done c.loop-i.invariant (omega arith) c.loop-i-test.false
