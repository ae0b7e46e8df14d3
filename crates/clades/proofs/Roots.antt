-- The clade of a tree's root: it is noted at the first node, and equal clades are equal label sets.
-- Assumes nothing.
use mathlib.Core.Path.{◌≡◌}
use mathlib.Core.Logic.{◌↔◌}
use mathlib.Core.List.{List}
use Prim.Native.Nat.{ℕ}
use native.Mathlib.Omega.{arith}
use borrow.Author.Tests.{eq-eqb, eqb-true}
use lib.Dec.{eqb}
use lib.ListN.{get_or}
use Rattle.meaning.specs.Tree.{Tree as Topology, Good, SameClade, canon}
use Rattle.meaning.specs.Reading.{same_labels}
use Rattle.meaning.specs.Clade.{clade}
use Rattle.meaning.proofs.Alike.{same-labels-iff}
use Rattle.meaning.proofs.Canon.{canon-≈, canon-good}
use Rattle.meaning.proofs.Clade.{clade-iff}
use Rattle.meaning.proofs.Logic.{both-tests}
use Rattle.meaning.proofs.Same.{≈-clade, clade-trans}
use Rattle.held.specs.Kept.{Keeps}
use Rattle.held.specs.declared.Tree.{Tree}
use Rattle.held.proofs.Kept.{keeps-holds}
use Rattle.held.proofs.Laws.{some-nodes}
use Rattle.clades.specs.Marks.{Noted}

pub root-noted : {tree : Tree} {t : Topology} (m : List ℕ) → Keeps tree t → Noted clade tree.node m → get_or m 0 0 ≡ clade (canon t)
root-noted {t} m k noted = noted (canon t) (keeps-holds k) 0 (omega arith) (omega (arith, some-nodes (canon t))) (canon t) (keeps-holds k)

module _ {t u : Topology} (g : Good t) (h : Good u) where
  canon-clade : SameClade (canon t) (canon u) ↔ SameClade t u
  canon-clade =
      let one = ≈-clade (canon-≈ t) in
      let two = ≈-clade (canon-≈ u) in
      (λ s. clade-trans (one.1, one.0) (clade-trans s two), λ s. clade-trans one (clade-trans s (two.1, two.0)))

  pub roots-same : eqb (clade (canon t)) (clade (canon u)) ≡ same_labels t u
  roots-same =
      let c = clade-iff (canon-good g) (canon-good h) in
      both-tests (eqb (clade (canon t)) (clade (canon u))) (same_labels t u) (
        λ e. (same-labels-iff t u).1 (canon-clade.0 (c.0 (eqb-true (clade (canon t)) (clade (canon u)) e))),
        λ e. eq-eqb (clade (canon t)) (clade (canon u)) (c.1 (canon-clade.1 ((same-labels-iff t u).0 e))),
      )
