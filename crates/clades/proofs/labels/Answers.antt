-- `clades::labels` meets its contract.
-- Assumes nothing.
use Prim.Native.Nat.{ℕ}
use native.Mathlib.Omega.{arith}
use lib.ListN.{length-replicate}
use Rattle.meaning.specs.Limits.{max_nodes}
use Rattle.meaning.specs.Tree.{canon}
use Rattle.meaning.proofs.Canon.{canon-good}
use Rattle.held.proofs.Kept.{keeps-holds}
use Rattle.clades.proofs.Roots.{root-noted}
use Rattle.clades.proofs.labels.Goals as goal

pub note-requires : goal.note-requires
note-requires c =
    let p = c.requires in
    record { tree = canon p.topology; holds = keeps-holds p.keeps; good = canon-good p.keeps.good; room = omega (arith, length-replicate {A = ℕ} max_nodes 0) }

pub returns : goal.returns
returns c t k = root-noted c.note.new.m k c.note.ensures
