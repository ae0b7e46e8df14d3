-- `clades::same_labels` meets its contract.
-- Assumes nothing.
use mathlib.Core.Path.{ap₂, ◌∙◌}
use lib.Dec.{eqb}
use Rattle.clades.proofs.Roots.{roots-same}
use Rattle.clades.proofs.same_labels.Goals as goal

pub returns : goal.returns
returns c t u k l = ap₂ eqb (c.labels.ensures t k) (c.labels-2.ensures u l) ∙ roots-same k.good l.good
