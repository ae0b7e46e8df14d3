-- The whole sheet: the first line, the trees' lines and the pairs' lines, one after another.
-- Assumes nothing.
use mathlib.Core.Path.{◌≡◌}
use mathlib.Core.List.{List}
use Prim.Native.Nat.{ℕ, ◌+◌, ◌*◌, ◌≤◌}
use native.Mathlib.Omega.{arith}
use lib.ListN.{length, take, length-append}
use Rattle.meaning.specs.Kind.{Trees}
use Rattle.meaning.specs.Listing.{Pair, flat}
use Rattle.meaning.specs.Sheet.{first_line, tree_lines, pair_lines, sheet}
use Rattle.lent.specs.Runs.{Wrote}
use Rattle.lent.proofs.Runs.{wrote-more, wrote-length}
use Rattle.held.specs.declared.Table.{Table}
use Rattle.held.proofs.Kept.{keeps-good}
use Rattle.graph.specs.Listed.{PairsListed}
use Rattle.graph.proofs.Listed.{pairs-taken}
use Rattle.sheet.specs.Lines.{TreesListed, TreeLinesFit, PairLinesFit, SheetFits}
use Rattle.sheet.proofs.Sizes.{sheet-short}

sheet-length : (ts : Trees) (ps : List Pair) → length (sheet ts ps) ≡ length (first_line (length ts.trees) (length ps)) + length (tree_lines ts ps 0 ts.trees) + length (pair_lines ps)
unfolding sheet
sheet-length ts ps = simp length-append

-- the lines of whatever trees the table keeps were written
abbrev TreesWrote : Table → List ℕ → List ℕ → List ℕ → List ℕ → ℕ → ℕ → Type 0
TreesWrote table numbers firsts out out' at r = (ts : Trees) (ps : List Pair) → TreesListed table numbers firsts ts ps → Wrote (tree_lines ts ps 0 ts.trees) out out' at r

-- each part has room behind those before it
module _ {table : Table} {pairs numbers firsts : List ℕ} {m : ℕ} (out : List ℕ) (f : SheetFits table pairs numbers firsts m (length out)) where
  all-fits : length (first_line table.len m) + length (tree_lines f.trees f.linked 0 f.trees.trees) + length (pair_lines f.linked) ≤ length out
  all-fits =
      let L = f.trees-listed in
      rw (L.keeps.all.count, f.pairs-listed.many, ← sheet-length f.trees f.linked)
      (omega (arith, sheet-short f.trees f.linked (keeps-good L.keeps.all) L.listing L.keeps.all.few, f.room))

  pub first_fits : 0 + length (first_line table.len m) ≤ length out
  first_fits = omega (arith, all-fits)

  module _ {o₁ : List ℕ} {r₁ : ℕ} (first : Wrote (first_line table.len m) out o₁ 0 r₁) where
    pub trees-fit : TreeLinesFit table numbers firsts r₁ (length o₁)
    trees-fit = record { trees = f.trees; linked = f.linked; listed = f.trees-listed; room = omega (arith, all-fits, first.behind, wrote-length first) }

    pub pairs-fit : {o₂ : List ℕ} {r₂ : ℕ} → TreesWrote table numbers firsts o₁ o₂ r₁ r₂ → PairLinesFit (take (2 * m) pairs) r₂ (length o₂)
    pairs-fit lines =
        let trees = lines f.trees f.linked f.trees-listed in
        record { linked = f.linked; listed = pairs-taken f.pairs-listed; room = omega (arith, all-fits, first.behind, wrote-length first, trees.behind, wrote-length trees) }

-- and together they are the sheet
pub wrote-sheet : {table : Table} {pairs numbers firsts : List ℕ} {m : ℕ} {out o₁ o₂ o₃ : List ℕ} {r₁ r₂ r₃ : ℕ} → Wrote (first_line table.len m) out o₁ 0 r₁
    → TreesWrote table numbers firsts o₁ o₂ r₁ r₂ → ((ps : List Pair) → take (2 * m) pairs ≡ flat ps → Wrote (pair_lines ps) o₂ o₃ r₂ r₃)
    → (ts : Trees) (ps : List Pair) → TreesListed table numbers firsts ts ps → PairsListed pairs m ps → Wrote (sheet ts ps) out o₃ 0 r₃
unfolding sheet
wrote-sheet first trees links ts ps L P = wrote-more (wrote-more (rw (L.keeps.all.count, P.many) at first) (trees ts ps L)) (links ps (pairs-taken P))
