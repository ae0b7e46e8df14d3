-- A tree that grows to a clade: the leaf of its one label, or a fork of what grows to the first child and to the rest.
-- Assumes nothing.
use mathlib.Core.Path.{◌≡◌, refl, sym, ap, subst, ◌∙◌}
use mathlib.Core.List.{List}
use Prim.Native.Nat.{ℕ, ◌+◌, ◌-◌, ◌≤◌, ◌<◌}
use native.Mathlib.Omega.{arith}
use Rattle.meaning.specs.Tree.{Tree, leaf, fork, leaves}
use Rattle.meaning.specs.Clade.{lowest, clade}
use Rattle.meaning.proofs.Same.{good-first, good-second}
use Rattle.meaning.proofs.Labels.{some-leaves}
use Rattle.meaning.proofs.Clade.{lowest-least}
use Rattle.families.specs.Clades.{size}
use Rattle.families.specs.Grown.{first_child, Grows, split, GrowsTo}
use Rattle.families.proofs.Clades.{size-leaves}

-- one label
pub grown-leaf : {cs : List ℕ} {c : ℕ} (t : Tree) → GrowsTo cs c t → size c < 2 → t ≡ leaf (lowest c)
grown-leaf (leaf n) g h = ap leaf (sym (lowest-least g.good) ∙ ap lowest g.whole)
grown-leaf (fork a b) g h = absurd (omega (arith, ap size g.whole, size-leaves g.good, some-leaves a, some-leaves b))

-- t is a fork of two trees, each of fewer labels, that grow to the first child of c and to the rest
pub record Forked (cs : List ℕ) (c : ℕ) (t : Tree) : Type 0 where
  pub first : Tree
  pub second : Tree
  pub is : t ≡ fork first second
  pub leaves_sum : size c ≡ leaves first + leaves second
  pub part : first_child cs c ≤ c
  pub first_grows : GrowsTo cs (first_child cs c) first
  pub second_grows : GrowsTo cs (c - first_child cs c) second
  pub first-less : size (first_child cs c) < size c
  pub second-less : size (c - first_child cs c) < size c

-- two or more labels
pub grown-fork : {cs : List ℕ} {c : ℕ} (t : Tree) → GrowsTo cs c t → 2 ≤ size c → Forked cs c t
grown-fork (leaf n) g h = absurd (omega (arith, ap size g.whole, size-leaves g.good))
grown-fork {cs} {c} (fork a b) g h = go g.grows
  where
    go : Grows cs (fork a b) → Forked cs c (fork a b)
    go (split e p q) =
        let A = good-first g.good in
        let B = good-second g.good in
        let f : first_child cs c ≡ clade a = ap (first_child cs) (sym g.whole) ∙ e in
        let r : c - first_child cs c ≡ clade b = omega (arith, g.whole) in
        let n = size-leaves g.good in
        let w = ap size g.whole in record {
          first = a;
          second = b;
          is = refl;
          leaves_sum = omega (arith, n, w);
          part = omega (arith, g.whole);
          first_grows = record { good = A; whole = sym f; grows = p };
          second_grows = record { good = B; whole = sym r; grows = q };
          first-less = omega (arith, n, w, ap size f, size-leaves A, some-leaves b);
          second-less = omega (arith, n, w, ap size r, size-leaves B, some-leaves a);
        }

-- what grows to a fork's two parts, where f is its first child
pub first-grown : {cs : List ℕ} {c f : ℕ} {t : Tree} → f ≡ first_child cs c → (F : Forked cs c t) → GrowsTo cs f F.first
first-grown {cs} e F = subst (λ (x : ℕ). GrowsTo cs x F.first) (sym e) F.first_grows

pub second-grown : {cs : List ℕ} {c f : ℕ} {t : Tree} → f ≡ first_child cs c → (F : Forked cs c t) → GrowsTo cs (c - f) F.second
second-grown {cs} {c} e F = subst (λ (x : ℕ). GrowsTo cs x F.second) (ap (λ (y : ℕ). c - y) (sym e)) F.second_grows
