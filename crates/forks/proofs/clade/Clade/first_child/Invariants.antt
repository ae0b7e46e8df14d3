use Rattle.std.proofs.Common.{◌≡◌, take}
use Rattle.families.specs.Grown.{first_child}
use Rattle.forks.proofs.clade.Clade.first_child.Given as goal

abbrev pub invariant-loop-d : goal.invariant-loop-d
invariant-loop-d l = l.best ≡ first_child (take l.d-index l.clades) l.self
