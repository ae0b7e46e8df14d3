-- Of the first k entries those of others are written.
use Rattle.lent.specs.Runs.{Wrote}
use Rattle.holdings.specs.Memory.{entries_at}
use Rattle.removing.specs.Removing.{others_in}
use Rattle.removing.proofs.close_gaps.Given as goal

abbrev pub invariant-loop-k : goal.invariant-loop-k
invariant-loop-k l = Wrote (others_in l.initial.memory l.k l.x) l.initial.memory l.memory entries_at l.to
