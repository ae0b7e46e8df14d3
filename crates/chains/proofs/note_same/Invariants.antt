-- The entries before e are chained and noted.
use Rattle.chains.proofs.Laws.{State}
use Rattle.chains.proofs.note_same.Given as goal

abbrev pub invariant-loop-e : goal.invariant-loop-e
invariant-loop-e l = State l.keys l.head l.next l.same l.e
