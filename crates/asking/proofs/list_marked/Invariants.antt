-- The numbers that are passed are listed, where they are to be.
use Rattle.std.proofs.Common.{◌≤◌}
use Rattle.asking.specs.Asking.{Other, Below, ListWritten}
use Rattle.asking.proofs.list_marked.Given as goal

abbrev pub invariant-loop-y : goal.invariant-loop-y
invariant-loop-y l = (l.m ≤ l.y) × ListWritten (Below (Other l.marks l.memory l.x) l.y) l.initial.list l.list l.m
