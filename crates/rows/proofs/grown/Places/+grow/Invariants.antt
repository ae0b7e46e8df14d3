use Rattle.families.specs.Clades.{size}
use Rattle.rows.proofs.grown.Places.+grow.Given as goal

abbrev pub decreases-grow : goal.decreases-grow
decreases-grow l = size l.c
