-- The parts of two held trees, compared: what each test of the interchange test says of the trees that are held.
-- Assumes nothing.
use mathlib.Core.Path.{◌≡◌, refl, sym, subst, ◌∙◌}
use mathlib.Core.Logic.{◌⊎◌, inl, inr}
use mathlib.Core.Bool.{Bool}
use Rattle.meaning.specs.Tree.{Tree, fork}
use Rattle.meaning.specs.Interchange.{Forks, in_order, turned}
use Rattle.lent.specs.Runs.{Says}
use Rattle.lent.proofs.Says.{says}
use Rattle.interchanges.specs.Interchanged.{Regrafted, Regrouped}

-- ---- the child that stands beside another is the one
forks-one : {n m s t : Tree} → Forks n s t → Forks m s t → n ≡ m
forks-one f g = go f g refl
  where
    go : {n m s t t' : Tree} → Forks n s t → Forks m s t' → t ≡ t' → n ≡ m
    go in_order in_order e = cc
    go in_order turned e = cc
    go turned in_order e = cc
    go turned turned e = cc

-- a child of the parent p is regrafted under q: that beside s is the child of q beside z
pub regrafted-says : {p z q s n m : Tree} → Forks n s p → Forks m z q → (r : Bool) → Says r (n ≡ m) → Says r (Regrafted p z q s)
regrafted-says {p} {z} {q} {s} {n} {m} f g =
    says (n ≡ m) (Regrafted p z q s) (λ e. record { node = n; under = f; under' = subst (λ v. Forks v z q) (sym e) g })
    (λ r. forks-one f r.under ∙ forks-one r.under' g)

-- either child is the parent, in the one tree and in the other
regrouped-by : {p z q s t u : Tree} → Forks p z t → Forks q s u → Regrafted p z q s → Regrouped t u
regrouped-by {p} {z} {q} {s} f g m = record { parent = p; aunt = z; parent' = q; sibling = s; root = f; root' = g; moved = m }

-- the first three of the four tests, and the last
abbrev pub FirstThree : Tree → Tree → Tree → Tree → Type 0
FirstThree a b c d = (Regrafted a b c d ⊎ Regrafted a b d c) ⊎ Regrafted b a c d

module _ {a b c d t u : Tree} (e : t ≡ fork a b) (e' : u ≡ fork c d) where
  pub three-regrouped : FirstThree a b c d → Regrouped t u
  three-regrouped three = rw (e, e') (go three)
    where
      go : FirstThree a b c d → Regrouped (fork a b) (fork c d)
      go (inl (inl m)) = regrouped-by in_order in_order m
      go (inl (inr m)) = regrouped-by in_order turned m
      go (inr m) = regrouped-by turned in_order m

  pub fourth-says : ¬ FirstThree a b c d → (r : Bool) → Says r (Regrafted b a d c) → Says r (Regrouped t u)
  fourth-says n = rw (e, e') (says (Regrafted b a d c) (Regrouped (fork a b) (fork c d)) (regrouped-by turned turned) (λ g. go n g.root g.root' g.moved))
    where
      go : {x y z w p r q s : Tree} → ¬ FirstThree x y z w → Forks p r (fork x y) → Forks q s (fork z w) → Regrafted p r q s → Regrafted y x w z
      go n in_order in_order m = absurd (n (inl (inl m)))
      go n in_order turned m = absurd (n (inl (inr m)))
      go n turned in_order m = absurd (n (inr m))
      go n turned turned m = m
