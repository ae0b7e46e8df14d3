-- The rows of a tree, where they stand: the root's, the children's, those of every node, and the drawing that they make.
-- Assumes nothing.
use mathlib.Core.Path.{◌≡◌, sym, ap, ap₂, subst, ◌∙◌}
use mathlib.Core.List.{List, ◌++◌, append_assoc}
use Prim.Native.Nat.{ℕ, ◌+◌, ◌≤◌, ◌<◌}
use native.Mathlib.Nat.{add-zero}
use native.Mathlib.Omega.{arith}
use lib.ListN.{length, drop, get_or}
use lib.Ieee.{Float, nan}
use Rattle.meaning.specs.Tree.{Tree, leaf, fork, leaves}
use Rattle.lent.specs.Runs.{Wrote}
use Rattle.lent.proofs.Runs.{head-is, head_in, next-is, drop-run, starts_with}
use Rattle.held.specs.Held.{Holds, nodes}
use Rattle.held.proofs.Laws.{twice, children}
use Rattle.plots.specs.Plot.{row, rows, tip, joint, drawn, NodeAt, here, first, second}
use Rattle.plotting.specs.Placing.{rows_from}
use Rattle.plotting.specs.Drawing.{RowsAt, Drawable}
use Rattle.plotting.proofs.Placing.{order-nodes}

-- the rows that a plot leaves stand from the start on
pub rows-stand : {t : Tree} {rs rs' : List Float} {n : ℕ} → Wrote (rows t) rs rs' 0 n → length (rows t) ≤ length rs → RowsAt rs' 0 0 0 t
rows-stand w h = record { stands = starts_with w h }

-- the root's row
pub row_at : {rs : List Float} {k c i : ℕ} {t : Tree} → RowsAt rs k c i t → get_or rs k nan ≡ row i t
row_at {rs} {k} {i} {t = leaf l} r = head-is rs k (row i (leaf l)) r.stands.0 r.stands.1 nan
row_at {rs} {k} {c} {i} {t = fork a b} r = head-is rs k (row i (fork a b)) ((rows_from (c + 1) i a ++ rows_from (c + 1) (i + leaves a) b) ++ r.stands.0) r.stands.1 nan

pub row_inside : {rs : List Float} {k c i : ℕ} {t : Tree} → RowsAt rs k c i t → k < length rs
row_inside {rs} {k} {i} {t = leaf l} r = head_in rs k (row i (leaf l)) r.stands.0 r.stands.1
row_inside {rs} {k} {c} {i} {t = fork a b} r = head_in rs k (row i (fork a b)) ((rows_from (c + 1) i a ++ rows_from (c + 1) (i + leaves a) b) ++ r.stands.0) r.stands.1

-- the children's rows
module _ {rs : List Float} {k c i : ℕ} {a b : Tree} (r : RowsAt rs k c i (fork a b)) where
  abbrev xs : List Float
  xs = rows_from (c + 1) i a

  abbrev ys : List Float
  ys = rows_from (c + 1) (i + leaves a) b

  rows_next : drop (k + 1) rs ≡ xs ++ (ys ++ r.stands.0)
  rows_next = next-is rs k (row i (fork a b)) ((xs ++ ys) ++ r.stands.0) r.stands.1 ∙ append_assoc xs ys r.stands.0

  pub rows-of-first : RowsAt rs (k + 1) (c + 1) i a
  rows-of-first = record { stands = (ys ++ r.stands.0, rows_next) }

  pub rows-of-second : RowsAt rs (k + 1 + nodes a) (c + 1) (i + leaves a) b
  rows-of-second =
      record { stands = (r.stands.0, ap (λ (j : ℕ). drop (k + 1 + j) rs) (sym (order-nodes (λ c i s. row i s) (c + 1) i a)) ∙ drop-run rs (k + 1) xs (ys ++ r.stands.0) rows_next) }

-- a leaf is drawn as a tip
pub drawn-leaf : {rs : List Float} {k c i l : ℕ} {t : Tree} → t ≡ leaf l → RowsAt rs k c i t → tip (get_or rs k nan) ≡ drawn i t
drawn-leaf {i} e r = ap tip (row_at r ∙ ap (row i) e) ∙ sym (ap (drawn i) e)

-- a fork with its children, which stand at p and q
module _ {rs : List Float} {k p q c i : ℕ} {t a b : Tree} (e : t ≡ fork a b) (first-at : p ≡ k + 1) (second-at : q ≡ k + 1 + nodes a) (r : RowsAt rs k c i t) where
  rows_both : RowsAt rs k c i (fork a b)
  rows_both = subst (RowsAt rs k c i) e r

  first-rows : RowsAt rs p (c + 1) i a
  first-rows = rw first-at (rows-of-first rows_both)

  second-rows : RowsAt rs q (c + 1) (i + leaves a) b
  second-rows = rw second-at (rows-of-second rows_both)

  pub first-inside : p < length rs
  first-inside = row_inside first-rows

  pub second-inside : q < length rs
  second-inside = row_inside second-rows

  pub drawn-fork : joint (get_or rs k nan) (get_or rs p nan) (get_or rs q nan) ≡ drawn i t
  drawn-fork =
      ap (λ (x : Float). joint x (get_or rs p nan) (get_or rs q nan)) (row_at rows_both)
      ∙ ap₂ (joint (row i (fork a b))) (row_at first-rows) (row_at second-rows)
      ∙ sym (ap (drawn i) e)

-- ---- so every node of a tree whose rows stand can be drawn
moved : {xs : List ℕ} {rs : List Float} {j : ℕ} (k : ℕ) → k ≡ j → Drawable xs rs k → Drawable xs rs j
moved k e d = rw (← e) d

drawable : {xs : List ℕ} {rs : List Float} {s t : Tree} {n d j k c i : ℕ} → NodeAt s n d j t → Holds xs k t → RowsAt rs k c i t → Drawable xs rs (k + n)
drawable {xs} {rs} {s} {k} {c} {i} here h r = rw (add-zero k) (record { tree = s; above = c; before = i; holds = h; rows_at = r })
drawable {xs} {rs} {k} (first {k = n} m) h r = moved (k + 1 + n) (omega arith) (drawable m (children h).0 (rows-of-first r))
drawable {xs} {rs} {k} (second {k = n} {a} m) h r = moved (k + 1 + nodes a + n) (omega (arith, twice a)) (drawable m (children h).1 (rows-of-second r))

pub node-drawable : {xs : List ℕ} {rs : List Float} {s t : Tree} {k c i : ℕ} → NodeAt s k c i t → Holds xs 0 t → RowsAt rs 0 0 0 t → Drawable xs rs k
node-drawable {k} n h r = moved (0 + k) (omega arith) (drawable n h r)
