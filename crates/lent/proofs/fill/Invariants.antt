-- As many are written as are passed.
use Rattle.std.proofs.Common.{◌-◌, ◌≤◌, replicate}
use Rattle.lent.specs.Runs.{Wrote}
use Rattle.lent.proofs.fill.Given as goal

abbrev pub invariant-loop-k : goal.invariant-loop-k
invariant-loop-k g l = (l.k - l.from ≤ l.to - l.from) × Wrote (replicate (l.k - l.from) l.x) l.initial.cells l.cells l.from l.k
