-- Clades as numbers: a good tree's number has its labels, so equal numbers are equal clades, and the tests of bits are those of clades.
-- Assumes nothing.
use mathlib.Core.Path.{◌≡◌, refl, sym, ◌∙◌, subst}
use mathlib.Core.Logic.{◌↔◌, ◌⊎◌, inl, inr}
use Prim.Native.Nat.{ℕ, suc, ◌-◌, ◌≤◌, ◌<◌}
use native.Mathlib.Omega.{arith}
use lib.Dec.{T}
use lib.Pow.{pow_pos, pow-lt}
use Rattle.meaning.specs.Tree.{Tree, leaf, fork, In, tip, Distinct, Good, ◌⊆◌, SameClade, least}
use Rattle.meaning.specs.Clade.{HasLabel, lowest, inside, disjoint, clade}
use Rattle.meaning.proofs.Logic.{iff-then}
use Rattle.meaning.proofs.Same.{◌≈◌, one, same, swap, good-first, good-second, in_leaf}
use Rattle.meaning.proofs.Canon.{least-in, least-le}
use Rattle.meaning.proofs.LabelBits.{Clear, Under, clear-iff, under-iff, under_same, inside-iff, disjoint_iff, label-add, add-lt, label-pow, lowest-in, lowest-le}

-- ---- a tree's number has the tree's labels
abbrev Exact : Tree → Type 0
Exact t = (l : ℕ) → HasLabel l (clade t) ↔ In l t

leaf-exact : (n : ℕ) → 1 ≤ n → Exact (leaf n)
leaf-exact n h l =
    let e : suc (n - 1) ≡ n = omega arith in
    iff-then (label-pow l (n - 1)) (λ own. subst (λ (k : ℕ). In k (leaf n)) (sym (own ∙ e)) tip, λ i. in_leaf i ∙ sym e)

-- the children of a fork share no label, so their numbers add up without a carry
module _ (a b : Tree) (A : Exact a) (B : Exact b) (D : Distinct (fork a b)) where
  clear-children : Clear (clade a) (clade b)
  clear-children = (clear-iff (clade a) (clade b)).1 (λ l h k. D.2 l ((A l).0 h) ((B l).0 k))

  fork-exact : Exact (fork a b)
  fork-exact l = iff-then (label-add clear-children l) (either, side)
    where
      either : HasLabel l (clade a) ⊎ HasLabel l (clade b) → In l (fork a b)
      either (inl h) = In.first ((A l).0 h)
      either (inr h) = In.second ((B l).0 h)

      side : In l (fork a b) → HasLabel l (clade a) ⊎ HasLabel l (clade b)
      side (In.first i) = inl ((A l).1 i)
      side (In.second i) = inr ((B l).1 i)

-- label L is at bit L - 1 exactly when it is one of the tree's
pub label-iff : {t : Tree} → Good t → (l : ℕ) → HasLabel l (clade t) ↔ In l t
label-iff {t = leaf n} G = leaf-exact n (G.small n tip).0
label-iff {t = fork a b} G = fork-exact a b (label-iff (good-first G)) (label-iff (good-second G)) G.distinct

pub children-clear : {a b : Tree} → Good (fork a b) → Clear (clade a) (clade b)
children-clear {a} {b} G = clear-children a b (label-iff (good-first G)) (label-iff (good-second G)) G.distinct

-- and fits into 64 bits
pub clade-fits : {t : Tree} → Good t → clade t < 18446744073709551616
clade-fits {t = leaf n} G = let h = G.small n tip in pow-lt {j = 64} (omega arith)
clade-fits {t = fork a b} G = add-lt 64 (children-clear G) (clade-fits (good-first G)) (clade-fits (good-second G))

-- whatever the order of children
pub clade-≈ : {t u : Tree} → t ≈ u → clade t ≡ clade u
clade-≈ one = refl
clade-≈ (same p q) = omega (arith, clade-≈ p, clade-≈ q)
clade-≈ (swap p q) = omega (arith, clade-≈ p, clade-≈ q)

-- ---- two clades
pub under-clade : {s t : Tree} → Good s → Good t → Under (clade s) (clade t) ↔ (s ⊆ t)
under-clade {s} {t} G H =
    iff-then (under-iff (clade s) (clade t)) (λ f l i. (label-iff H l).0 (f l ((label-iff G l).1 i)), λ f l h. (label-iff H l).1 (f l ((label-iff G l).0 h)))

same-labels : {s r : Tree} → Good s → Good r → clade s ≡ clade r → s ⊆ r
same-labels G H e l i = (label-iff H l).0 (subst (HasLabel l) e ((label-iff G l).1 i))

-- equal numbers, equal clades
pub clade-iff : {s r : Tree} → Good s → Good r → (clade s ≡ clade r) ↔ SameClade s r
clade-iff G H = (λ e. (same-labels G H e, same-labels H G (sym e)), λ c. under_same ((under-clade G H).1 c.0) ((under-clade H G).1 c.1))

-- nested and disjoint clades, by their bits
pub inside-clade : {s t : Tree} → Good s → Good t → T (inside (clade s) (clade t)) ↔ (s ⊆ t)
inside-clade {s} {t} G H = iff-then (inside-iff (clade s) (clade t)) (under-clade G H)

pub disjoint-clade : {s t : Tree} → Good s → Good t → T (disjoint (clade s) (clade t)) ↔ ((l : ℕ) → In l s → In l t → ⊥)
disjoint-clade {s} {t} G H =
    iff-then (iff-then (disjoint_iff (clade s) (clade t)) (clear-iff (clade s) (clade t)))
    (λ f l i j. f l ((label-iff G l).1 i) ((label-iff H l).1 j), λ f l h k. f l ((label-iff G l).0 h) ((label-iff H l).0 k))

-- ---- the smallest label
pub clade-some : (t : Tree) → 0 < clade t
clade-some (leaf n) = pow_pos (n - 1)
clade-some (fork a b) = omega (arith, clade-some a)

pub lowest-least : {t : Tree} → Good t → lowest (clade t) ≡ least t
lowest-least {t} G =
    let i : In (lowest (clade t)) t = (label-iff G (lowest (clade t))).0 (lowest-in (clade t) (clade-some t) (clade-fits G)) in
    omega (arith, least-le i, lowest-le (least t) (clade t) ((label-iff G (least t)).1 (least-in t)))
