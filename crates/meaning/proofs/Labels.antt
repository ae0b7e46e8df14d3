-- A tree's labels as a list: no label occurs twice in the tree exactly when no number occurs twice in the list.
-- Assumes nothing.
use mathlib.Core.Path.{◌≡◌, refl, sym, subst}
use mathlib.Core.Logic.{◌⊎◌, inl, inr}
use mathlib.Core.List.Memᴰ
use mathlib.Core.List.{Memᴰ}
use Prim.Native.Nat.{ℕ, ◌≤◌}
use native.Mathlib.Omega.{arith}
use lib.ListN.{length, length-append}
use Rattle.meaning.specs.Lists.{NoDup}
use Rattle.meaning.specs.Tree.{Tree, leaf, fork, In, tip, Distinct, labels, leaves}
use Rattle.meaning.proofs.Lists.{nodup_append, nodup-parts}

-- a label is one of the list of labels
pub in-labels : {l : ℕ} {t : Tree} → In l t → Memᴰ l (labels t)
in-labels tip = Memᴰ.head refl
in-labels (In.first {b} i) = Memᴰ.append_left (labels b) (in-labels i)
in-labels (In.second {a} i) = Memᴰ.append_right (labels a) (in-labels i)

pub labels_in : {l : ℕ} (t : Tree) → Memᴰ l (labels t) → In l t
labels_in (leaf n) m = subst (λ (k : ℕ). In k (leaf n)) (sym (Memᴰ.eq_of_singleton m)) tip
labels_in {l} (fork a b) m = go (labels_in a) (labels_in b) (Memᴰ.append_cases (labels a) m)
  where
    go : (Memᴰ l (labels a) → In l a) → (Memᴰ l (labels b) → In l b) → Memᴰ l (labels a) ⊎ Memᴰ l (labels b) → In l (fork a b)
    go f g (inl n) = In.first (f n)
    go f g (inr n) = In.second (g n)

-- no label occurs twice where no number does
pub distinct-nodup : (t : Tree) → Distinct t → NoDup (labels t)
distinct-nodup (leaf n) D = (Memᴰ.not-nil, tt)
distinct-nodup (fork a b) D = nodup_append (labels a) (labels b) (distinct-nodup a D.0) (distinct-nodup b D.1) (λ l i j. D.2 l (labels_in a i) (labels_in b j))

pub nodup-distinct : (t : Tree) → NoDup (labels t) → Distinct t
nodup-distinct (leaf n) d = tt
nodup-distinct (fork a b) d =
    let (x, y, f) = nodup-parts (labels a) (labels b) d in
    (nodup-distinct a x, nodup-distinct b y, λ l i j. f l (in-labels i) (in-labels j))

pub labels_length : (t : Tree) → length (labels t) ≡ leaves t
labels_length (leaf n) = refl
labels_length (fork a b) = simp (length-append, labels_length a, labels_length b)

-- a tree has a leaf
pub some-leaves : (t : Tree) → 1 ≤ leaves t
some-leaves (leaf l) = omega arith
some-leaves (fork a b) = omega (arith, some-leaves a)
