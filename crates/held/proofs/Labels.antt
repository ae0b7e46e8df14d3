-- The labels among bytes: of a tree's nodes they are the tree's.
-- Assumes nothing.
use mathlib.Core.Path.{◌≡◌, refl, ap, ap₂, ◌∙◌}
use mathlib.Core.Bool.{Bool, true, false, cond}
use mathlib.Core.List.Memᴰ
use mathlib.Core.List.{List, [], ◌∷◌, ◌++◌, Memᴰ}
use Prim.Native.Nat.{ℕ, ◌+◌, ◌≤◌}
use native.Mathlib.Omega.{arith}
use borrow.Author.Tests.{le-leb, lt-leb, leb-true}
use lib.Dec.{leb}
use Rattle.meaning.specs.Tree.{Tree, leaf, fork, tip, Small, labels, leaves}
use Rattle.meaning.proofs.Labels.{some-leaves}
use Rattle.meaning.proofs.Logic.{and_left, and_right}
use Rattle.held.specs.Held.{pre}
use Rattle.held.specs.Labels.{is_label, labels_within}
use Rattle.held.proofs.Laws.{small-first, small-second}

label-yes : (v : ℕ) → 1 ≤ v → v ≤ 64 → is_label v ≡ true
label-yes v l h = rw (le-leb 1 v l, le-leb v 64 h)

pub labels_within-append : (xs ys : List ℕ) → labels_within (xs ++ ys) ≡ labels_within xs ++ labels_within ys
unfolding labels_within
labels_within-append [] ys = refl
labels_within-append (x ∷ xs) ys = by (is_label x) (labels_within-append xs ys)
  where
    by : (d : Bool) → labels_within (xs ++ ys) ≡ labels_within xs ++ labels_within ys → cond d (x ∷ labels_within (xs ++ ys)) (labels_within (xs ++ ys)) ≡ cond d (x ∷ labels_within xs) (labels_within xs) ++ labels_within ys
    by true e = ap (λ (l : List ℕ). x ∷ l) e
    by false e = e

-- of a tree's nodes they are the tree's labels
pub labels_within-pre : (t : Tree) → Small t → labels_within (pre t) ≡ labels t
unfolding labels_within
labels_within-pre (leaf l) S = rw (le-leb 1 l (S l tip).0, le-leb l 64 (S l tip).1)
labels_within-pre (fork a b) S =
    let n : ℕ = 64 + (leaves a + leaves b) in
    rw (le-leb 1 n (omega arith), lt-leb n 64 (omega (arith, some-leaves a)))
    (labels_within-append (pre a) (pre b) ∙ ap₂ ◌++◌ (labels_within-pre a (small-first S)) (labels_within-pre b (small-second S)))

pub labels_within-range : (xs : List ℕ) (l : ℕ) → Memᴰ l (labels_within xs) → (1 ≤ l) × (l ≤ 64)
unfolding labels_within
labels_within-range [] l m = absurd (Memᴰ.not-nil m)
labels_within-range (x ∷ xs) l m = by (is_label x) refl (labels_within-range xs l) m
  where
    here : is_label x ≡ true → (Memᴰ l (labels_within xs) → (1 ≤ l) × (l ≤ 64)) → Memᴰ l (x ∷ labels_within xs) → (1 ≤ l) × (l ≤ 64)
    here e f (Memᴰ.head g) = rw g (leb-true 1 x (and_left (leb 1 x) (leb x 64) e), leb-true x 64 (and_right (leb 1 x) (leb x 64) e))
    here e f (Memᴰ.tail n) = f n

    by : (d : Bool) → is_label x ≡ d → (Memᴰ l (labels_within xs) → (1 ≤ l) × (l ≤ 64)) → Memᴰ l (cond d (x ∷ labels_within xs) (labels_within xs)) → (1 ≤ l) × (l ≤ 64)
    by true e f n = here e f n
    by false e f n = f n
