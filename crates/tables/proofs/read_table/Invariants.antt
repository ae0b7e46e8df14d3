-- The trees so far are kept, and the rest of the text gives the answer.
use Rattle.std.proofs.Common.{◌-◌}
use Rattle.reading.specs.Whole.{takes_of}
use Rattle.tables.proofs.Turns.{State}
use Rattle.tables.proofs.read_table.Given as goal

abbrev pub invariant-loop-at : goal.invariant-loop-at
invariant-loop-at l = State (takes_of l.takes) l.s l.table l.at

abbrev pub decreases-loop-at : goal.decreases-loop-at
decreases-loop-at l = 160 - l.table.len
