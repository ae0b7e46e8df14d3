-- As many are copied as are passed.
use Rattle.std.proofs.Common.{◌+◌, ◌≤◌, take, drop}
use Rattle.lent.specs.Runs.{Wrote}
use Rattle.lent.proofs.copy.Given as goal

abbrev pub invariant-loop-k : goal.invariant-loop-k
invariant-loop-k g l = (l.k ≤ l.count) × Wrote (take l.k (drop l.from l.s)) l.initial.out l.out l.at (l.at + l.k)
