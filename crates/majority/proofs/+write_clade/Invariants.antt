use Rattle.families.specs.Clades.{size}
use Rattle.majority.proofs.+write_clade.Given as goal

abbrev pub decreases-write_clade : goal.decreases-write_clade
decreases-write_clade l = size l.c
