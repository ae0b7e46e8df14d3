-- Support and the clades listed do not change when children are put into canonical order.
-- Assumes nothing.
use mathlib.Core.Path.{◌≡◌, refl, sym, ap, ap₂, subst, ◌∙◌}
use mathlib.Core.Logic.{◌↔◌}
use mathlib.Core.Bool.{Bool, true, false, ◌&&◌, ◌||◌}
use mathlib.Core.List.Memᴰ
use mathlib.Core.List.{List, [], ◌∷◌, map, Memᴰ}
use Prim.Native.Nat.{ℕ, ◌+◌}
use lib.Dec.{T, ltb, eqb}
use Rattle.meaning.specs.Lists.{member, bit}
use Rattle.meaning.specs.Tree.{Tree, Good, canon}
use Rattle.meaning.proofs.Lists.{member-in, in-member}
use Rattle.meaning.proofs.Canon.{canon-good, canon-topology}
use Rattle.meaning.specs.Lists.{SameMembers}
use Rattle.families.specs.Clades.{clades}
use Rattle.families.specs.Support.{holders, by_labels, ranks, supported, support}
use Rattle.families.proofs.Clades.{topology-iff-clades}
use Rattle.meaning.specs.Sorted.{First, Sorted}
use Rattle.families.proofs.Support.{EachGood, Occurs, supported-in, supported-sorted, supported-unique}

-- the canonical tree has the same clades
canon-clades : (t : Tree) → Good t → SameMembers (clades (canon t)) (clades t)
canon-clades t G = ((topology-iff-clades (canon-good G) G).0 (canon-topology t)).1

-- lists with the same members contain the same
same-member : (c : ℕ) (xs ys : List ℕ) → SameMembers xs ys → member c xs ≡ member c ys
same-member c xs ys e = go (member c xs) refl (member c ys) refl
  where
    go : (a : Bool) → member c xs ≡ a → (b : Bool) → member c ys ≡ b → a ≡ b
    go true p true q = refl
    go true p false q = sym (in-member ((e c).0 (member-in c xs p))) ∙ q
    go false p true q = sym p ∙ in-member ((e c).1 (member-in c ys q))
    go false p false q = refl

-- good trees have good canonical trees
pub canon-each-good : (ts : List Tree) → EachGood ts → EachGood (map canon ts)
canon-each-good ts A t m = let (s, m', e) = Memᴰ.of_map canon ts m in subst Good e (canon-good (A s m'))

-- as many trees have a clade
pub holders-canon : (ts : List Tree) → EachGood ts → (c : ℕ) → holders (map canon ts) c ≡ holders ts c
holders-canon [] A c = refl
holders-canon (t ∷ ts) A c =
    ap₂ (λ (b : Bool) (n : ℕ). bit b + n) (same-member c (clades (canon t)) (clades t) (canon-clades t (A t (Memᴰ.head refl)))) (holders-canon ts (λ s m. A s (Memᴰ.tail m)) c)

module _ (ts : List Tree) (A : EachGood ts) where
  ranks-canon : (c d : ℕ) → ranks (map canon ts) c d ≡ ranks ts c d
  unfolding ranks
  ranks-canon c d =
      ap₂ (λ (m n : ℕ). ltb m n || (eqb m n && by_labels c d)) (holders-canon ts A d) (holders-canon ts A c)

  first-canon : (x : ℕ) (xs : List ℕ) → First (ranks (map canon ts)) x xs → First (ranks ts) x xs
  first-canon x xs f y m = subst T (ranks-canon x y) (f y m)

  sorted-canon : (xs : List ℕ) → Sorted (ranks (map canon ts)) xs → Sorted (ranks ts) xs
  sorted-canon [] s = s
  sorted-canon (x ∷ xs) s = (first-canon x xs s.0, sorted-canon xs s.1)

  occurs-canon : (c : ℕ) → Occurs c (map canon ts) ↔ Occurs c ts
  occurs-canon c = (
    (λ (t, m, n). let (s, m', e) = Memᴰ.of_map canon ts m in (s, m', (canon-clades s (A s m') c).0 (subst (λ (u : Tree). Memᴰ c (clades u)) (sym e) n))),
    (λ (s, m, n). (canon s, Memᴰ.map canon m, (canon-clades s (A s m) c).1 n)),
  )

  -- the same clades are listed, in the same order
  pub supported-canon : supported (map canon ts) ≡ supported ts
  supported-canon =
      supported-unique ts A (supported (map canon ts)) (sorted-canon (supported (map canon ts)) (supported-sorted (map canon ts) (canon-each-good ts A)))
      (λ c. (λ m. (occurs-canon c).0 ((supported-in (map canon ts) c).0 m), λ o. (supported-in (map canon ts) c).1 ((occurs-canon c).1 o)))

  each-canon : (cs : List ℕ) → map (holders (map canon ts)) cs ≡ map (holders ts) cs
  each-canon [] = refl
  each-canon (c ∷ cs) = ap₂ ◌∷◌ (holders-canon ts A c) (each-canon cs)

  -- with the same numbers
  pub support-canon : support (map canon ts) ≡ support ts
  support-canon = each-canon (supported (map canon ts)) ∙ ap (map (holders ts)) supported-canon
