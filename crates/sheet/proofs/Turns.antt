-- What the loops over a table's trees and over the pairs read in a turn; and lines as rows.
-- Assumes nothing.
use mathlib.Core.Path.{◌≡◌, refl, ap, ap₂}
use mathlib.Core.List.{List, [], ◌∷◌, ◌++◌, Memᴰ}
use Prim.Native.Nat.{ℕ, suc, ◌+◌, ◌/◌, ◌≤◌, ◌<◌}
use native.Mathlib.Omega.{arith}
use lib.ListN.{length, take, get_or, replicate}
use Rattle.meaning.specs.Limits.{max_trees}
use Rattle.meaning.specs.Tree.{Tree as Topology, leaf, Good, AllGood}
use Rattle.meaning.specs.Kind.{Kinded, Trees}
use Rattle.meaning.specs.Listing.{Pair, tree_of, unlinked, flat}
use Rattle.meaning.specs.Sheet.{tree_line, tree_line_of, tree_lines, pair_line, pair_lines}
use Rattle.meaning.specs.IslandSheet.{line_at, lines_from}
use Rattle.meaning.proofs.Unlinked.{unlinked-neighbours-copies}
use Rattle.lent.specs.Runs.{Wrote}
use Rattle.held.specs.Kept.{KeepsKind, KeptKindRoom, held_at}
use Rattle.held.specs.declared.Table.{Table}
use Rattle.held.proofs.Kept.{keeps-good, keeps-kinded}
use Rattle.std.specs.Simd.{first_chunks}
use Rattle.graph.proofs.Listed.{chunks-many, chunk-at}
use Rattle.sheet.specs.Lines.{TreesListed, unlinked_numbers, TreeLinesFit, PairLinesFit}
use Rattle.sheet.proofs.Listed.{inside, counted}
use Rattle.sheet.proofs.Unlinked.{written_at}
use Rattle.sheet.proofs.Rows.{rows, turn-room, turn-wrote, turns-wrote}

-- ---- trees
-- their lines are rows
pub trees-rows : (ts : Trees) (ps : List Pair) (i : ℕ) (us : List Topology) → tree_lines ts ps i us ≡ rows (tree_line_of ts ps) i us
unfolding tree_lines
trees-rows ts ps i [] = refl
trees-rows ts ps i (u ∷ us) = ap (λ (l : List ℕ). tree_line_of ts ps i u ++ l) (trees-rows ts ps (suc i) us)

pub good-one : (ts : List Topology) → AllGood ts → {t : Topology} → Memᴰ t ts → Good t
good-one [] G k = elim k [ ]
good-one (t ∷ ts) G (Memᴰ.head e) = rw e G.0
good-one (t ∷ ts) G (Memᴰ.tail m) = good-one ts G.1 m

-- the array `others` begins with the unlinked numbers of the table's trees
abbrev pub OthersNoted : Table → List ℕ → List ℕ → List ℕ → Type 0
OthersNoted table numbers firsts others =
    (ts : Trees) (ps : List Pair) → TreesListed table numbers firsts ts ps → Wrote (unlinked_numbers ts.trees ps) (replicate max_trees 0) others 0 (length ts.trees)

pub others-few : {table : Table} {numbers firsts others : List ℕ} {ts : Trees} {ps : List Pair} → OthersNoted table numbers firsts others → TreesListed table numbers firsts ts ps
    → (i : ℕ) → i < length ts.trees → get_or others i 0 ≤ max_trees
others-few {ts} {ps} noted L i h =
    let kept = L.keeps.all in
    omega (arith, written_at (unlinked ts.trees ps) kept.few (noted ts ps L) i h, unlinked-neighbours-copies ts.kind ts.trees (keeps-good kept) L.listing i h, kept.few)

-- the line of the tree x at i, whose neighbours and unlinked number stand at i of the numbers
abbrev pub tree_line_at : List ℕ → List ℕ → ℕ → Kinded → List ℕ
tree_line_at numbers others i x = tree_line x.kind i (get_or numbers i 0) (get_or others i 0) x.tree

-- the lines of the first i trees are written
abbrev pub TreesSoFar : Table → List ℕ → List ℕ → List ℕ → List ℕ → ℕ → ℕ → ℕ → Type 0
TreesSoFar table numbers firsts out o₁ at next i =
    (ts : Trees) (ps : List Pair) → TreesListed table numbers firsts ts ps → Wrote (rows (tree_line_of ts ps) 0 (take i ts.trees)) out o₁ at next

module _ {table : Table} {numbers firsts out o₁ : List ℕ} {at next i : ℕ} (w : TreesSoFar table numbers firsts out o₁ at next i) where
  module _ {others : List ℕ} (noted : OthersNoted table numbers firsts others) (h : i < table.len) where
    module _ {ts : Trees} {ps : List Pair} (L : TreesListed table numbers firsts ts ps) where
      abbrev own : Kinded
      own = record { kind = ts.kind; tree = tree_of ts.trees i }

      own-kept : KeepsKind (held_at table i) own
      own-kept = keeps-kinded L.keeps i (inside L i h)

      line-is : tree_line_at numbers others i own ≡ tree_line_of ts ps i (tree_of ts.trees i)
      line-is =
          ap₂ (λ (n u : ℕ). tree_line ts.kind i n u (tree_of ts.trees i)) (counted L i h)
          (written_at (unlinked ts.trees ps) L.keeps.all.few (noted ts ps L) i (inside L i h))

    pub tree-fits : TreeLinesFit table numbers firsts at (length out) → KeptKindRoom (λ x. next + length (tree_line_at numbers others i x)) (held_at table i) (length o₁)
    tree-fits f =
        let L = f.listed in
        let us = f.trees.trees in
        let room : at + length (rows (tree_line_of f.trees f.linked) 0 us) ≤ length out = rw (← trees-rows f.trees f.linked 0 us) f.room in
        record {
          kinded = own L;
          keeps = own-kept L;
          room = rw (line-is L) (turn-room (tree_line_of f.trees f.linked) (leaf 0) us i (inside L i h) (w f.trees f.linked L) room);
        }

    pub trees-more : {o₂ : List ℕ} {r : ℕ} → ((x : Kinded) → KeepsKind (held_at table i) x → Wrote (tree_line_at numbers others i x) o₁ o₂ next r)
        → TreesSoFar table numbers firsts out o₂ at r (i + 1)
    trees-more one ts ps L = turn-wrote (tree_line_of ts ps) (leaf 0) ts.trees i (inside L i h) (w ts ps L) (rw (line-is L) at (one (own L) (own-kept L)))

  pub trees-done : i ≤ table.len → table.len ≤ i → (ts : Trees) (ps : List Pair) → TreesListed table numbers firsts ts ps → Wrote (tree_lines ts ps 0 ts.trees) out o₁ at next
  trees-done h l ts ps L =
      let all : i ≡ length ts.trees = omega (arith, L.keeps.all.count) in
      rw (trees-rows ts ps 0 ts.trees) (turns-wrote (tree_line_of ts ps) ts.trees all (w ts ps L))

-- ---- pairs
abbrev pub pair_row : ℕ → Pair → List ℕ
pair_row _ p = pair_line p.0 p.1

-- their lines are rows
pub pairs-rows : (i : ℕ) (ps : List Pair) → pair_lines ps ≡ rows pair_row i ps
unfolding pair_lines
pairs-rows i [] = refl
pairs-rows i (p ∷ ps) = ap (λ (l : List ℕ). pair_line p.0 p.1 ++ l) (pairs-rows (suc i) ps)

-- the line of a turn's pair
abbrev pub line_of : List ℕ → List ℕ
line_of p = pair_line (get_or p 0 0) (get_or p 1 0)

-- the lines of the first i pairs are written
abbrev pub PairsSoFar : List ℕ → List ℕ → List ℕ → ℕ → ℕ → ℕ → Type 0
PairsSoFar numbers out o₁ at next i = (ps : List Pair) → numbers ≡ flat ps → Wrote (rows pair_row 0 (take i ps)) out o₁ at next

module _ {numbers out o₁ : List ℕ} {at next i : ℕ} (w : PairsSoFar numbers out o₁ at next i) {chunks : List (List ℕ)} (f : chunks ≡ first_chunks 2 (length numbers / 2) numbers) where
  module _ (h : i < length chunks) where
    pub pair_fits : PairLinesFit numbers at (length out) → next + length (line_of (get_or chunks i [])) ≤ length o₁
    pair_fits p =
        let e = p.listed in
        rw (chunk-at p.linked e f i h) (turn-room pair_row (0, 0) p.linked i (omega (arith, chunks-many p.linked e f)) (w p.linked e) (rw (← pairs-rows 0 p.linked) p.room))

    pub pairs-more : {o₂ : List ℕ} {r : ℕ} → Wrote (line_of (get_or chunks i [])) o₁ o₂ next r → PairsSoFar numbers out o₂ at r (i + 1)
    pairs-more one ps e = turn-wrote pair_row (0, 0) ps i (omega (arith, chunks-many ps e f)) (w ps e) (rw (chunk-at ps e f i h) at one)

  pub pairs-done : i ≤ length chunks → length chunks ≤ i → (ps : List Pair) → numbers ≡ flat ps → Wrote (pair_lines ps) out o₁ at next
  pairs-done h l ps e =
      let all : i ≡ length ps = omega (arith, chunks-many ps e f) in
      rw (pairs-rows 0 ps) (turns-wrote pair_row ps all (w ps e))

-- ---- islands
-- their lines are rows
pub lines_rows : (ms : List ℕ) (i : ℕ) (xs : List ℕ) → lines_from ms i xs ≡ rows (line_at ms) i xs
unfolding lines_from
lines_rows ms i [] = refl
lines_rows ms i (x ∷ xs) = ap (λ (l : List ℕ). line_at ms i x ++ l) (lines_rows ms (suc i) xs)
