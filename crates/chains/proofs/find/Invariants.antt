-- No entry with the key was passed.
use Rattle.std.proofs.Common.{ℕ, ◌%◌}
use Rattle.chains.specs.Chains.{slots, Last, InSlot}
use Rattle.chains.proofs.Laws.{Search}
use Rattle.chains.proofs.find.Given as goal

abbrev pub invariant-loop-q : goal.invariant-loop-q
invariant-loop-q l = (e : ℕ) → Last (InSlot l.keys (l.k % slots)) e l.initial.q → Search l.keys l.k e l.q

abbrev pub decreases-loop-q : goal.decreases-loop-q
decreases-loop-q l = l.q
