-- The lines of the pairs that are passed are written.
use Rattle.sheet.proofs.Turns.{PairsSoFar}
use Rattle.sheet.proofs.write_pair_lines.Given as goal

abbrev pub invariant-loop-i : goal.invariant-loop-i
invariant-loop-i l = PairsSoFar l.pairs l.fn.out l.out l.at l.next l.i-index
