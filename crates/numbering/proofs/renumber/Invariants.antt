-- The numbers that are passed are written anew.
use Rattle.std.proofs.Common.{◌≡◌, ◌++◌, map, take, drop}
use Rattle.meaning.specs.Islands.{renumbered}
use Rattle.numbering.proofs.renumber.Given as goal

abbrev pub invariant-loop-x : goal.invariant-loop-x
invariant-loop-x l = l.x-items ≡ map (renumbered l.from l.to) (take l.x-index l.fn.numbers) ++ drop l.x-index l.fn.numbers
