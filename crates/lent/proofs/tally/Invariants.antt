-- The numbers that are passed are counted.
use Rattle.std.proofs.Common.{take}
use Rattle.lent.specs.Tallies.{Tallied}
use Rattle.lent.proofs.tally.Given as goal

abbrev pub invariant-loop-x : goal.invariant-loop-x
invariant-loop-x l = Tallied (take l.x-index l.numbers) l.initial.tallies l.tallies
