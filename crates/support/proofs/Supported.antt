-- The clades of trees in order, each once, and then by their numbers: that is the list of support.
-- Assumes nothing.
use mathlib.Core.Path.{◌≡◌, refl, sym, ap, ap₂, ◌∙◌}
use mathlib.Core.Logic.{◌↔◌}
use mathlib.Core.List.{List, [], ◌∷◌, map, Memᴰ}
use Prim.Native.Nat.{ℕ, ◌+◌, ◌<◌}
use native.Mathlib.Omega.{arith}
use native.Mathlib.Decide.{ℕ_discrete}
use borrow.Author.Tests.{eq-eqb, ne_eqb}
use lib.Dec.{eqb}
use lib.ListN.{length}
use Rattle.meaning.specs.Lists.{count, bit}
use Rattle.meaning.specs.Tree.{Tree}
use Rattle.meaning.specs.Clade.{clade}
use Rattle.meaning.proofs.Logic.{iff-then}
use Rattle.meaning.proofs.LabelBits.{under-le}
use Rattle.meaning.proofs.Clade.{clade-fits}
use Rattle.families.specs.Support.{holders, pooled, supported, support}
use Rattle.families.proofs.Clades.{clades-under}
use Rattle.families.proofs.Support.{EachGood, Occurs, holders-iff, holders-le, holders-pooled, supported-regrouped}
use Rattle.sorting.specs.Sort.{Sorts}
use Rattle.support.specs.Counted.{firsts, sizes, grouped}
use Rattle.support.proofs.Counting.{EachFits, firsts-in, firsts-sorted, count_yes, count_no, sizes-counts}
use Rattle.support.proofs.Grouping.{grouped-long, grouped-map, grouped-regrouped}

-- ---- the clades of trees in order, each once, and then by their numbers, are the support list
count-swap : (c : ℕ) (xs : List ℕ) → count (eqb c) xs ≡ count (λ d. eqb d c) xs
count-swap c [] = refl
count-swap c (x ∷ xs) = ap₂ (λ (a b : ℕ). a + b) (go (ℕ_discrete c x)) (count-swap c xs)
  where
    go : Dec (c ≡ x) → bit (eqb c x) ≡ bit (eqb x c)
    go (yes e) = rw (eq-eqb c x e, eq-eqb x c (sym e))
    go (no d) = rw (ne_eqb c x d, ne_eqb x c (λ e. d (sym e)))

count-some : (c : ℕ) (xs : List ℕ) → 0 < count (eqb c) xs → Memᴰ c xs
count-some c [] h = absurd (omega arith)
count-some c (x ∷ xs) h = go (ℕ_discrete c x) (count-some c xs)
  where
    go : Dec (c ≡ x) → (0 < count (eqb c) xs → Memᴰ c xs) → Memᴰ c (x ∷ xs)
    go (yes e) f = Memᴰ.head e
    go (no d) f = Memᴰ.tail (f (omega (arith, h, count_no c x xs d)))

some-count : (c : ℕ) (xs : List ℕ) → Memᴰ c xs → 0 < count (eqb c) xs
some-count c [] x' = elim x' [ ]
some-count c (x ∷ xs) (Memᴰ.head e) = omega (arith, count_yes c x xs e)
some-count c (x ∷ xs) (Memᴰ.tail m) = omega (arith, some-count c xs m)

map_each : (f g : ℕ → ℕ) (xs : List ℕ) → ((x : ℕ) → f x ≡ g x) → map f xs ≡ map g xs
map_each f g [] h = refl
map_each f g (x ∷ xs) h = ap₂ (λ (y : ℕ) (l : List ℕ). y ∷ l) (h x) (map_each f g xs h)

module _ (ts : List Tree) (A : EachGood ts) {zs : List ℕ} (S : Sorts (pooled ts) zs) where
  often-is : (c : ℕ) → count (eqb c) zs ≡ holders ts c
  often-is c = S.often c ∙ count-swap c (pooled ts) ∙ holders-pooled ts A c

  in-iff : (c : ℕ) → Memᴰ c zs ↔ Occurs c ts
  in-iff c = let f = holders-iff ts c in (λ m. f.0 (omega (arith, some-count c zs m, often-is c)), λ o. count-some c zs (omega (arith, f.1 o, often-is c)))

  pub pooled-fits : EachFits zs
  pooled-fits c i = let (t, m, n) = (in-iff c).0 i in omega (arith, under-le c (clade t) (clades-under t (A t m) c n), clade-fits (A t m))

  pub sizes-holders : sizes zs ≡ map (holders ts) (firsts zs)
  sizes-holders = sizes-counts zs pooled-fits S.in_order ∙ map_each (λ c. count (eqb c) zs) (holders ts) (firsts zs) often-is

  groups-are : grouped (length ts) (firsts zs) (map (holders ts) (firsts zs)) ≡ supported ts
  groups-are =
      grouped-regrouped ts (length ts) (firsts zs)
      ∙ supported-regrouped ts (firsts zs) A (firsts-sorted zs pooled-fits S.in_order) (λ c. iff-then (firsts-in zs c) (in-iff c))

  pub firsts-long : length (firsts zs) ≡ length (supported ts)
  firsts-long =
      sym (grouped-long (length ts) (holders ts) (firsts zs) (λ c m. ((holders-iff ts c).1 ((in-iff c).0 ((firsts-in zs c).0 m)), holders-le ts c)))
      ∙ ap length groups-are

  pub grouped-supported : grouped (length ts) (firsts zs) (sizes zs) ≡ supported ts
  grouped-supported = ap (grouped (length ts) (firsts zs)) sizes-holders ∙ groups-are

  pub grouped-support : grouped (length ts) (sizes zs) (sizes zs) ≡ support ts
  grouped-support =
      ap (λ (l : List ℕ). grouped (length ts) l l) sizes-holders
      ∙ grouped-map (holders ts) (holders ts) (length ts) (firsts zs)
      ∙ ap (map (holders ts)) groups-are
