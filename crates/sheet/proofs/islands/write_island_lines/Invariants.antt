-- The lines at the first i positions are written.
use Rattle.sheet.proofs.IslandLines.{LinesSoFar}
use Rattle.sheet.proofs.islands.write_island_lines.Given as goal

abbrev pub invariant-loop-i : goal.invariant-loop-i
invariant-loop-i l = LinesSoFar l.numbers l.n l.fn.out l.out l.next l.i
