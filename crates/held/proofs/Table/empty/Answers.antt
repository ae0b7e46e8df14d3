-- `held::Table::empty` meets its contract.
-- Assumes nothing.
use mathlib.Core.Path.{refl, ap}
use native.Mathlib.Omega.{arith}
use Rattle.held.specs.Kept.{kind_of}
use Rattle.held.specs.declared.Tree.{Tree}
use Rattle.held.proofs.Table.empty.Goals as goal

pub returns : goal.returns
returns c = record {
  all = record { count = refl; few = omega arith; each = λ i h. absurd (omega arith) };
  first = ap (λ (tree : Tree). kind_of tree.kind) c.empty.ensures;
  kinds = λ i h. absurd (omega arith);
  stand = λ i h. absurd (omega arith);
}
