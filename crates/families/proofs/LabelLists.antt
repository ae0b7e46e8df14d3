-- The labels of a clade as a list: ascending, as many as bits are set.
-- Assumes nothing.
use mathlib.Core.Path.{◌≡◌, refl, sym, subst}
use mathlib.Core.Logic.{◌↔◌}
use mathlib.Core.Bool.{Bool, true, false, cond}
use mathlib.Core.List.Memᴰ
use mathlib.Core.List.{List, ◌∷◌, Memᴰ}
use Prim.Native.Nat.{ℕ, zero, suc, ◌+◌, ◌/◌, ◌%◌, ◌^◌, ◌≤◌, ◌<◌}
use native.Mathlib.Omega.{arith}
use native.Mathlib.Decide.{ℕ_discrete}
use lib.Count.{ones_in}
use lib.Dec.{T, ltb, eqb, lt→ltb}
use lib.ListN.{length}
use Rattle.meaning.specs.Limits.{max_label}
use Rattle.meaning.specs.Tree.{Tree, Good, In}
use Rattle.meaning.specs.Clade.{digit, HasLabel, inside, disjoint, clade}
use Rattle.meaning.proofs.Logic.{T-eq, iff-then}
use Rattle.meaning.proofs.LabelBits.{clear-iff, under-iff, under_same, inside-iff, disjoint_iff}
use Rattle.meaning.specs.Sorted.{Sorted}
use Rattle.meaning.proofs.Clade.{label-iff, clade-fits}
use Rattle.families.specs.Clades.{size, labels_from, labels_of}
use Rattle.families.proofs.Sizes.{label-64}

-- ---- which labels are listed
-- m is a label of x, where the lowest bit of x is that of label i + 1
abbrev Stands : ℕ → ℕ → ℕ → Type 0
Stands i x m = (j : ℕ) × (m ≡ i + suc j) × HasLabel (suc j) x

-- those behind the first bit
abbrev others : ℕ → ℕ → ℕ → List ℕ
others k i x = labels_from k (suc (suc i)) (x / 2)

from_in : (k i x m : ℕ) → Memᴰ m (labels_from k (suc i) x) → Stands i x m
unfolding labels_from digit
from_in zero i x m n = absurd (Memᴰ.not-nil n)
from_in (suc k) i x m n = go (eqb (x % 2) 1) (T-eq (x % 2) 1).0 (from_in k (suc i) (x / 2) m) n
  where
    later : Stands (suc i) (x / 2) m → Stands i x m
    later (j, e, h) = (suc j, omega arith, h)

    go : (b : Bool) → (T b → x % 2 ≡ 1) → (Memᴰ m (others k i x) → Stands (suc i) (x / 2) m)
        → Memᴰ m (cond b (suc i ∷ others k i x) (others k i x)) → Stands i x m
    go true h f (Memᴰ.head e) = (zero, omega arith, h tt)
    go true h f (Memᴰ.tail n) = later (f n)
    go false h f n = later (f n)

in-from : (k i x j : ℕ) → j < k → HasLabel (suc j) x → Memᴰ (i + suc j) (labels_from k (suc i) x)
unfolding labels_from digit
in-from zero i x j h e = absurd (omega arith)
in-from (suc k) i x zero h e = go (eqb (x % 2) 1) ((T-eq (x % 2) 1).1 e)
  where
    go : (b : Bool) → T b → Memᴰ (i + 1) (cond b (suc i ∷ others k i x) (others k i x))
    go true t = let e : i + 1 ≡ suc i = omega arith in Memᴰ.head e
    go false t = absurd t
in-from (suc k) i x (suc j) h e = go (eqb (x % 2) 1) (Memᴰ.cast (omega arith) (in-from k (suc i) (x / 2) j (omega arith) e))
  where
    go : (b : Bool) → Memᴰ (i + suc (suc j)) (others k i x) → Memᴰ (i + suc (suc j)) (cond b (suc i ∷ others k i x) (others k i x))
    go true n = Memᴰ.tail n
    go false n = n

-- exactly its labels
pub labels-of-iff : (x : ℕ) → x < 2 ^ 64 → (l : ℕ) → Memᴰ l (labels_of x) ↔ HasLabel l x
unfolding labels_of
labels-of-iff x h l = (λ m. there (from_in max_label 0 x l m), λ q. back l q (label-64 l x h q))
  where
    there : Stands 0 x l → HasLabel l x
    there (j, e, q) = let p : l ≡ suc j = omega arith in subst (λ (k : ℕ). HasLabel k x) (sym p) q

    back : (l : ℕ) → HasLabel l x → (1 ≤ l) × (l ≤ max_label) → Memᴰ l (labels_from max_label 1 x)
    back zero q r = absurd (omega arith)
    back (suc j) q r = Memᴰ.cast (omega arith) (in-from max_label 0 x j (omega arith) q)

from_sorted : (k i x : ℕ) → Sorted ltb (labels_from k (suc i) x)
unfolding labels_from
from_sorted zero i x = tt
from_sorted (suc k) i x = go (eqb (x % 2) 1) (from_sorted k (suc i) (x / 2))
  where
    above : (y : ℕ) → Stands (suc i) (x / 2) y → T (ltb (suc i) y)
    above y (j, e, h) = let p : suc i < y = omega arith in lt→ltb (suc i) y p

    go : (b : Bool) → Sorted ltb (others k i x) → Sorted ltb (cond b (suc i ∷ others k i x) (others k i x))
    go true s = (λ y m. above y (from_in k (suc i) (x / 2) y m), s)
    go false s = s

-- ascending
pub labels-of-sorted : (x : ℕ) → Sorted ltb (labels_of x)
unfolding labels_of
labels-of-sorted x = from_sorted max_label 0 x

from-length : (k i x : ℕ) → length (labels_from k i x) ≡ ones_in k x
unfolding labels_from ones_in
from-length zero i x = refl
from-length (suc k) i x = go (eqb (x % 2) 1) (T-eq (x % 2) 1).0 (T-eq (x % 2) 1).1 (from-length k (suc i) (x / 2))
  where
    go : (b : Bool) → (T b → x % 2 ≡ 1) → (x % 2 ≡ 1 → T b) → length (labels_from k (suc i) (x / 2)) ≡ ones_in k (x / 2)
        → length (cond b (i ∷ labels_from k (suc i) (x / 2)) (labels_from k (suc i) (x / 2))) ≡ x % 2 + ones_in k (x / 2)
    go true h g e = omega (arith, h tt)
    go false h g e = zero_bit (ℕ_discrete (x % 2) 1)
      where
        zero_bit : Dec (x % 2 ≡ 1) → length (labels_from k (suc i) (x / 2)) ≡ x % 2 + ones_in k (x / 2)
        zero_bit (yes q) = absurd (g q)
        zero_bit (no n) = omega arith

-- as many as bits are set
pub labels-of-length : (x : ℕ) → length (labels_of x) ≡ size x
unfolding labels_of size
labels-of-length x = from-length max_label 1 x

-- equal lists, equal clades
pub labels-of-inj : (x y : ℕ) → x < 2 ^ 64 → y < 2 ^ 64 → labels_of x ≡ labels_of y → x ≡ y
labels-of-inj x y h g e = under_same ((under-iff x y).1 (half x y h g e)) ((under-iff y x).1 (half y x g h (sym e)))
  where
    half : (a b : ℕ) → a < 2 ^ 64 → b < 2 ^ 64 → labels_of a ≡ labels_of b → (l : ℕ) → HasLabel l a → HasLabel l b
    half a b p q f l i = (labels-of-iff b q l).0 (subst (λ (ls : List ℕ). Memᴰ l ls) f ((labels-of-iff a p l).1 i))

-- nested and disjoint, by labels
pub inside-labels : (c d : ℕ) → c < 2 ^ 64 → d < 2 ^ 64 → T (inside c d) ↔ ((l : ℕ) → Memᴰ l (labels_of c) → Memᴰ l (labels_of d))
inside-labels c d h g =
    iff-then (iff-then (inside-iff c d) (under-iff c d))
    (λ f l m. (labels-of-iff d g l).1 (f l ((labels-of-iff c h l).0 m)), λ f l i. (labels-of-iff d g l).0 (f l ((labels-of-iff c h l).1 i)))

pub disjoint-labels : (c d : ℕ) → c < 2 ^ 64 → d < 2 ^ 64 → T (disjoint c d) ↔ ((l : ℕ) → Memᴰ l (labels_of c) → Memᴰ l (labels_of d) → ⊥)
disjoint-labels c d h g =
    iff-then (iff-then (disjoint_iff c d) (clear-iff c d))
    (λ f l m n. f l ((labels-of-iff c h l).0 m) ((labels-of-iff d g l).0 n), λ f l i j. f l ((labels-of-iff c h l).1 i) ((labels-of-iff d g l).1 j))

-- the labels of a tree
pub clade-labels : {t : Tree} → Good t → (l : ℕ) → Memᴰ l (labels_of (clade t)) ↔ In l t
clade-labels {t} G l = iff-then (labels-of-iff (clade t) (clade-fits G) l) (label-iff G l)
