-- Placing a leaf and a fork: what the walk has written, from what it wrote for the children; and the walk from the root.
-- Assumes nothing.
use mathlib.Core.Path.{◌≡◌, refl, sym, ap, ap₂, subst, ◌∙◌}
use mathlib.Core.List.{List, ◌∷◌, ◌++◌}
use Prim.Native.Nat.{ℕ, ◌+◌, ◌*◌, ◌^◌, ◌≤◌}
use native.Mathlib.Omega.{arith}
use native.Mathlib.Numerals.{add-one}
use lib.ListN.{length, set}
use lib.Seq.{sets, length-sets}
use lib.Ieee.{Float}
use Rattle.meaning.specs.Limits.{max_label, max_nodes}
use Rattle.meaning.specs.Tree.{Tree, leaf, fork, leaves, Good, canon}
use Rattle.meaning.proofs.Canon.{canon-good}
use Rattle.meaning.proofs.Length.{leaves-64}
use Rattle.lent.specs.Runs.{Wrote}
use Rattle.lent.proofs.Runs.{sets-append, set-sets}
use Rattle.held.specs.Held.{nodes}
use Rattle.held.proofs.Laws.{twice, few-nodes}
use Rattle.plots.specs.Plot.{whole, halfway, row, exact, nodes_in_order, columns, rows, height, Off}
use Rattle.plots.proofs.Nodes.{order-length}
use Rattle.plots.proofs.Rows.{row-off}
use Rattle.plotting.specs.Placing.{rows_from, columns_from, Space, Placed}

-- ---- runs of stores
module _ {A : Type 0} (xs : List A) (k : ℕ) where
  -- two runs, the second behind the w cells of the first
  both_runs : (ys zs : List A) {xs₁ xs₂ : List A} {w : ℕ} → length ys ≡ w → xs₁ ≡ sets xs k ys → xs₂ ≡ sets xs₁ (k + w) zs → xs₂ ≡ sets xs k (ys ++ zs)
  both_runs ys zs e p q = q ∙ ap₂ (λ (l : List A) (j : ℕ). sets l (k + j) zs) p (sym e) ∙ sym (sets-append xs k ys zs)

  -- and the cell before them, stored first or last
  cell-first : (v : A) (ys : List A) {xs₂ : List A} → xs₂ ≡ sets (set xs k v) (k + 1) ys → xs₂ ≡ sets xs k (v ∷ ys)
  cell-first v ys p = p ∙ ap (λ (j : ℕ). sets (set xs k v) j ys) (add-one k)

  cell-last : (v : A) (ys : List A) {xs₂ : List A} → xs₂ ≡ sets xs (k + 1) ys → set xs₂ k v ≡ sets xs k (v ∷ ys)
  cell-last v ys p = cell-first v ys (ap (λ (l : List A). set l k v) p ∙ sym (set-sets xs k (k + 1) v ys (omega arith)))

-- ---- each node has one cell
pub order-nodes : {A : Type 0} (f : ℕ → ℕ → Tree → A) (c i : ℕ) (t : Tree) → length (nodes_in_order f c i t) ≡ nodes t
order-nodes f c i t = omega (arith, order-length f c i t, twice t)

-- ---- a walk keeps the lengths
module _ {t : Tree} {k c i : ℕ} {rs rs' : List Float} {cs cs' : List ℕ} {x y : Float} (p : Placed t k c i rs rs' cs cs' x y) where
  pub rows-length : length rs' ≡ length rs
  rows-length = ap length p.rows_are ∙ length-sets rs k (rows_from c i t)

  pub columns-length : length cs' ≡ length cs
  columns-length = ap length p.columns_are ∙ length-sets cs k (columns_from c i t)

-- ---- a leaf
pub placed-leaf : {k c i l : ℕ} {rs : List Float} {cs : List ℕ} {t : Tree} → t ≡ leaf l → i + leaves t ≤ max_label
    → Placed t k c i rs (set rs k (whole i)) cs (set cs k c) (whole c) (whole i)
placed-leaf {i} {l} e few =
    rw e
    (record { column-is = refl; row_is = refl; off = row-off (leaf l) i (subst (λ (u : Tree). i + leaves u ≤ max_label) e few); rows_are = refl; columns_are = refl })

-- ---- a fork
placed-both : (a b : Tree) {k c i : ℕ} {rs rs₁ rs₂ : List Float} {cs cs₁ cs₂ : List ℕ} {x x' y y' : Float} → i + leaves (fork a b) ≤ max_label
    → Placed a (k + 1) (c + 1) i rs rs₁ (set cs k c) cs₁ x' x → Placed b (k + 1 + nodes a) (c + 1) (i + leaves a) rs₁ rs₂ cs₁ cs₂ y' y
    → Placed (fork a b) k c i rs (set rs₂ k (halfway x y)) cs cs₂ (whole c) (halfway x y)
placed-both a b {k} {c} {i} {rs} {rs₂} {cs} {x} {y} few p q =
    let is : halfway x y ≡ row i (fork a b) = ap₂ halfway p.row_is q.row_is in
    let xs : List Float = rows_from (c + 1) i a in
    let ys : List Float = rows_from (c + 1) (i + leaves a) b in
    let zs : List ℕ = columns_from (c + 1) i a in
    let ws : List ℕ = columns_from (c + 1) (i + leaves a) b in
    record {
      column-is = refl;
      row_is = is;
      off = subst (λ (z : Float). Off (height (fork a b) * 2 ^ 15) z (exact i (fork a b))) (sym is) (row-off (fork a b) i few);
      rows_are =
          ap (λ (z : Float). set rs₂ k z) is
          ∙ cell-last rs k (row i (fork a b)) (xs ++ ys) (both_runs rs (k + 1) xs ys (order-nodes (λ c i s. row i s) (c + 1) i a) p.rows_are q.rows_are);
      columns_are = cell-first cs k c (zs ++ ws) (both_runs (set cs k c) (k + 1) zs ws (order-nodes (λ c i s. c) (c + 1) i a) p.columns_are q.columns_are);
    }

pub placed-fork : {k p q c i m : ℕ} {t a b : Tree} {rs rs₁ rs₂ : List Float} {cs cs₁ cs₂ : List ℕ} {x x' y y' z : Float}
    → t ≡ fork a b → p ≡ k + 1 → q ≡ k + 1 + nodes a → m ≡ i + leaves a → i + leaves t ≤ max_label
    → Placed a p (c + 1) i rs rs₁ (set cs k c) cs₁ x' x → Placed b q (c + 1) m rs₁ rs₂ cs₁ cs₂ y' y → z ≡ halfway x y
    → Placed t k c i rs (set rs₂ k z) cs cs₂ (whole c) z
placed-fork {i} {a} {b} e first second middle few P Q n =
    rw (e, n) (placed-both a b (subst (λ (u : Tree). i + leaves u ≤ max_label) e few) (rw first at P) (rw (second, middle) at Q))

-- ---- the walk from the root of a kept tree
few : {t : Tree} → Good t → 0 + leaves (canon t) ≤ max_label
few G = omega (arith, leaves-64 (canon-good G))

pub root-space : {t : Tree} {m n : ℕ} → Good t → max_nodes ≤ m → max_nodes ≤ n → Space (canon t) 0 0 0 m n
root-space G p q =
    let n = few-nodes (canon-good G) in
    record {
      rows_room = omega (arith, n, p);
      columns_room = omega (arith, n, q);
      above = few G;
      before = few G;
    }

pub plotted : (t : Tree) {rs rs' : List Float} {cs cs' : List ℕ} {x y : Float} {r : ℕ} → Placed (canon t) 0 0 0 rs rs' cs cs' x y → r ≡ nodes (canon t)
    → Wrote (rows (canon t)) rs rs' 0 r × Wrote (columns (canon t)) cs cs' 0 r
plotted t p e = (
  record { behind = omega (arith, e, order-nodes (λ c i s. row i s) 0 0 (canon t)); cells = p.rows_are },
  record { behind = omega (arith, e, order-nodes (λ c i s. c) 0 0 (canon t)); cells = p.columns_are },
)
