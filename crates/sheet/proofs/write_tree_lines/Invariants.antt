-- The lines of the first i trees are written.
use Rattle.sheet.proofs.Turns.{TreesSoFar}
use Rattle.sheet.proofs.write_tree_lines.Given as goal

abbrev pub invariant-loop-i : goal.invariant-loop-i
invariant-loop-i l = TreesSoFar l.table l.counts l.firsts l.fn.out l.out l.at l.next l.i
