-- The support list: every clade of the table once, in one order, at most 9,921; and the same list in two steps.
-- Assumes nothing.
use mathlib.Core.Path.{◌≡◌, refl, sym, ap, ap₂, ◌∙◌, subst}
use mathlib.Core.Logic.{◌↔◌, ◌⊎◌, inl, inr, ◌≢◌}
use mathlib.Core.Bool.{Bool, true, false, not, ◌||◌}
use mathlib.Core.List.Memᴰ
use mathlib.Core.List.{List, [], ◌∷◌, ◌++◌, Memᴰ}
use Prim.Native.Nat.{ℕ, zero, suc, ◌+◌, ◌-◌, ◌*◌, ◌^◌, ◌≤◌, ◌<◌}
use native.Mathlib.Nat.{suc-mul}
use native.Mathlib.Omega.{arith}
use native.Mathlib.Decide.{ℕ_discrete}
use borrow.Author.Tests.{eq-eqb, ne_eqb}
use lib.Dec.{T, eqb}
use lib.ListN.{length, length-append}
use Rattle.meaning.specs.Limits.{max_label, max_trees}
use Rattle.meaning.specs.Lists.{NoDup, member, count, bit}
use Rattle.meaning.specs.Tree.{Tree, leaf, fork, Good}
use Rattle.meaning.specs.Clade.{clade}
use Rattle.meaning.proofs.Logic.{cases, T-eq, iff-then}
use Rattle.meaning.proofs.Lists.{member-in, in-member}
use Rattle.meaning.proofs.Sums.{count-append, no_longer}
use Rattle.meaning.proofs.Length.{leaves-64}
use Rattle.meaning.proofs.LabelBits.{under-le}
use Rattle.meaning.proofs.Clade.{clade-fits}
use Rattle.meaning.specs.Lists.{SameMembers}
use Rattle.families.specs.Clades.{labels_of, clades}
use Rattle.meaning.specs.Sorted.{sort_by, keep, Sorted}
use Rattle.families.specs.Support.{holders, by_labels, ranks, pooled, once, supported, max_clades, regrouped}
use Rattle.meaning.proofs.Lesser.{then-iff, then-not, lesser-asym, lesser-trans, lesser-total}
use Rattle.families.proofs.LabelLists.{labels-of-inj}
use Rattle.families.proofs.Clades.{clades-length, clades-under, clades-nodup}
use Rattle.meaning.proofs.Sorted.{Strict, sort-in, sort_sorted, sorted-append, sorted-nodup, sorted-same}
use Rattle.meaning.proofs.Keep.{keep-iff, keep-sorted}
use Rattle.families.proofs.Once.{once-in, once-nodup}

-- a clade of a tree of the table
abbrev pub Occurs : ℕ → List Tree → Type 0
Occurs c ts = (t : Tree) × Memᴰ t ts × Memᴰ c (clades t)

-- every tree is good
abbrev pub EachGood : List Tree → Type 0
EachGood ts = (t : Tree) → Memᴰ t ts → Good t

-- every tree has the label set s
abbrev pub OneSet : ℕ → List Tree → Type 0
OneSet s ts = (t : Tree) → Memᴰ t ts → clade t ≡ s

-- ---- in how many trees a clade is
-- every tree counts, copies too
pub holders-more : (t : Tree) (ts : List Tree) (c : ℕ) → holders (t ∷ ts) c ≡ bit (member c (clades t)) + holders ts c
holders-more t ts c = refl

holders-occurs : (ts : List Tree) (c : ℕ) → 0 < holders ts c → Occurs c ts
holders-occurs [] c h = absurd (omega arith)
holders-occurs (u ∷ us) c h = go (member c (clades u)) (member-in c (clades u)) h (holders-occurs us c)
  where
    go : (b : Bool) → (b ≡ true → Memᴰ c (clades u)) → 0 < bit b + holders us c → (0 < holders us c → Occurs c us) → Occurs c (u ∷ us)
    go true f h g = (u, Memᴰ.head refl, f refl)
    go false f h g = let (t, m, n) = g (omega arith) in (t, Memᴰ.tail m, n)

occurs-holders : (ts : List Tree) (c : ℕ) (t : Tree) → Memᴰ t ts → Memᴰ c (clades t) → 0 < holders ts c
occurs-holders [] c t m n = absurd (Memᴰ.not-nil m)
occurs-holders (u ∷ us) c t (Memᴰ.head e) n = omega (arith, ap bit (in-member (subst (λ (v : Tree). Memᴰ c (clades v)) e n)))
occurs-holders (u ∷ us) c t (Memᴰ.tail m) n = omega (arith, occurs-holders us c t m n)

-- in one or more exactly when it occurs
pub holders-iff : (ts : List Tree) (c : ℕ) → (0 < holders ts c) ↔ Occurs c ts
holders-iff ts c = (holders-occurs ts c, λ (t, m, n). occurs-holders ts c t m n)

-- in no more than there are
pub holders-le : (ts : List Tree) (c : ℕ) → holders ts c ≤ length ts
holders-le [] c = omega arith
holders-le (u ∷ us) c = go (member c (clades u)) (holders-le us c)
  where
    go : (b : Bool) → holders us c ≤ length us → bit b + holders us c ≤ suc (length us)
    go true h = omega arith
    go false h = omega arith

not-member : (c : ℕ) (xs : List ℕ) → (Memᴰ c xs → ⊥) → member c xs ≡ false
not-member c xs f = cases (λ b. member c xs ≡ b → b ≡ false) (member c xs) (λ _ q. absurd (f (member-in c xs q))) (λ _ _. refl) refl

count-once : (c : ℕ) (xs : List ℕ) → NoDup xs → count (λ x. eqb x c) xs ≡ bit (member c xs)
unfolding member
count-once c [] n = refl
count-once c (x ∷ xs) n = go (ℕ_discrete x c) (count-once c xs n.1)
  where
    go : Dec (x ≡ c) → count (λ y. eqb y c) xs ≡ bit (member c xs) → bit (eqb x c) + count (λ y. eqb y c) xs ≡ bit (eqb x c || member c xs)
    go (yes e) f = rw (eq-eqb x c e) (omega (arith, f, ap bit (not-member c xs (λ m. n.0 (Memᴰ.cast e m)))))
    go (no q) f = rw (ne_eqb x c q) (omega (arith, f))

-- as many as it stands there in the clades of all trees
pub holders-pooled : (ts : List Tree) → EachGood ts → (c : ℕ) → count (λ d. eqb d c) (pooled ts) ≡ holders ts c
unfolding pooled
holders-pooled [] A c = refl
holders-pooled (t ∷ ts) A c =
    count-append (λ d. eqb d c) (clades t) (pooled ts)
    ∙ ap₂ (λ (x y : ℕ). x + y) (count-once c (clades t) (clades-nodup t (A t (Memᴰ.head refl)))) (holders-pooled ts (λ u m. A u (Memᴰ.tail m)) c)

-- ---- the list has every clade of the table
pub pooled-iff : (c : ℕ) (ts : List Tree) → Memᴰ c (pooled ts) ↔ Occurs c ts
unfolding pooled
pooled-iff c [] = (λ m. absurd (Memᴰ.not-nil m), λ (t, m, n). absurd (Memᴰ.not-nil m))
pooled-iff c (u ∷ us) = (λ m. go (pooled-iff c us).0 (Memᴰ.append_cases (clades u) m), λ (t, m, n). back (pooled-iff c us).1 t m n)
  where
    go : (Memᴰ c (pooled us) → Occurs c us) → Memᴰ c (clades u) ⊎ Memᴰ c (pooled us) → Occurs c (u ∷ us)
    go f (inl m) = (u, Memᴰ.head refl, m)
    go f (inr m) = let (t, i, n) = f m in (t, Memᴰ.tail i, n)

    back : (Occurs c us → Memᴰ c (pooled us)) → (t : Tree) → Memᴰ t (u ∷ us) → Memᴰ c (clades t) → Memᴰ c (clades u ++ pooled us)
    back f t (Memᴰ.head e) n = Memᴰ.append_left (pooled us) (subst (λ (v : Tree). Memᴰ c (clades v)) e n)
    back f t (Memᴰ.tail i) n = Memᴰ.append_right (clades u) (f (t, i, n))

-- and once only
distinct-iff : (c : ℕ) (ts : List Tree) → Memᴰ c (once (pooled ts)) ↔ Occurs c ts
distinct-iff c ts = iff-then (once-in (pooled ts) c) (pooled-iff c ts)

-- ---- in one order
-- more trees, or as many and the lesser labels
abbrev pub Ranked : List Tree → ℕ → ℕ → Type 0
Ranked ts c d = (holders ts d < holders ts c) ⊎ ((holders ts d ≡ holders ts c) × T (by_labels c d))

-- that is the test
pub ranks-iff : (ts : List Tree) (c d : ℕ) → T (ranks ts c d) ↔ Ranked ts c d
unfolding ranks
ranks-iff ts c d = then-iff (holders ts d) (holders ts c) (by_labels c d)

ranked-asym : (ts : List Tree) (x y : ℕ) → Ranked ts x y → Ranked ts y x → ⊥
ranked-asym ts x y (inl h) (inl g) = omega arith
ranked-asym ts x y (inl h) (inr g) = omega (arith, g.0)
ranked-asym ts x y (inr h) (inl g) = omega (arith, h.0)
ranked-asym ts x y (inr h) (inr g) = lesser-asym (labels_of x) (labels_of y) h.1 g.1

ranked-trans : (ts : List Tree) (x y z : ℕ) → Ranked ts x y → Ranked ts y z → Ranked ts x z
ranked-trans ts x y z (inl h) (inl g) = inl (omega arith)
ranked-trans ts x y z (inl h) (inr g) = inl (omega (arith, g.0))
ranked-trans ts x y z (inr h) (inl g) = inl (omega (arith, h.0))
ranked-trans ts x y z (inr h) (inr g) = inr (g.0 ∙ h.0, lesser-trans (labels_of x) (labels_of y) (labels_of z) h.1 g.1)

ranked-total : (ts : List Tree) (x y : ℕ) → x < 2 ^ 64 → y < 2 ^ 64 → x ≢ y
    → (holders ts x < holders ts y) ⊎ ((holders ts y ≡ holders ts x) × T (not (by_labels x y))) → Ranked ts y x
ranked-total ts x y p q n (inl h) = inl h
ranked-total ts x y p q n (inr h) = inr (sym h.0, lesser-total (labels_of x) (labels_of y) (λ e. n (labels-of-inj x y p q e)) h.1)

-- the order is strict, and any two clades can be compared
pub ranks-strict : (ts : List Tree) → Strict (λ c. c < 2 ^ 64) (ranks ts)
unfolding ranks
ranks-strict ts = record {
  asym = λ x y s t. ranked-asym ts x y ((ranks-iff ts x y).0 s) ((ranks-iff ts y x).0 t);
  trans = λ x y z s t. (ranks-iff ts x z).1 (ranked-trans ts x y z ((ranks-iff ts x y).0 s) ((ranks-iff ts y z).0 t));
  total = λ x y p q n t. (ranks-iff ts y x).1 (ranked-total ts x y p q n (then-not (holders ts y) (holders ts x) (by_labels x y) t));
}

-- so is the order of labels alone
pub labels-strict : Strict (λ c. c < 2 ^ 64) by_labels
labels-strict = record {
  asym = λ x y s t. lesser-asym (labels_of x) (labels_of y) s t;
  trans = λ x y z s t. lesser-trans (labels_of x) (labels_of y) (labels_of z) s t;
  total = λ x y p q n t. lesser-total (labels_of x) (labels_of y) (λ e. n (labels-of-inj x y p q e)) t;
}

-- a clade of the table has 64 bits
occurs-lt : (ts : List Tree) → EachGood ts → (c : ℕ) → Occurs c ts → c < 2 ^ 64
occurs-lt ts A c (t, m, n) = omega (arith, under-le c (clade t) (clades-under t (A t m) c n), clade-fits (A t m))

-- ---- the list
-- its members are the clades of two or more labels of the table's trees
pub supported-in : (ts : List Tree) (c : ℕ) → Memᴰ c (supported ts) ↔ Occurs c ts
unfolding supported
supported-in ts c = iff-then (sort-in (ranks ts) (once (pooled ts)) c) (distinct-iff c ts)

-- in that order
pub supported-sorted : (ts : List Tree) → EachGood ts → Sorted (ranks ts) (supported ts)
unfolding supported
supported-sorted ts A = sort_sorted (ranks ts) (ranks-strict ts) (once (pooled ts)) (λ c m. occurs-lt ts A c ((distinct-iff c ts).0 m)) (once-nodup (pooled ts))

-- so none twice
pub supported-nodup : (ts : List Tree) → EachGood ts → NoDup (supported ts)
supported-nodup ts A = sorted-nodup (ranks ts) (ranks-strict ts) (supported ts) (supported-sorted ts A)

-- and it is the only such list
pub supported-unique : (ts : List Tree) → EachGood ts → (cs : List ℕ) → Sorted (ranks ts) cs → ((c : ℕ) → Memᴰ c cs ↔ Occurs c ts) → cs ≡ supported ts
supported-unique ts A cs s f =
    let same : SameMembers cs (supported ts) = λ c. iff-then (f c) ((supported-in ts c).1, (supported-in ts c).0) in
    sorted-same (ranks ts) (ranks-strict ts) cs (supported ts) s (supported-sorted ts A) same

-- ---- how long it is
-- the clades below the root
unfoldable below : Tree → List ℕ
below (leaf n) = []
below (fork a b) = clades a ++ clades b

belows : List Tree → List ℕ
belows [] = []
belows (t ∷ ts) = below t ++ belows ts

below_length : (t : Tree) → Good t → length (below t) ≤ max_label - 2
unfolding below
below_length (leaf n) G = omega arith
below_length (fork a b) G = omega (arith, clades-length (fork a b), leaves-64 G)

belows-length : (ts : List Tree) → EachGood ts → length (belows ts) ≤ length ts * (max_label - 2)
unfolding belows
belows-length [] A = omega arith
belows-length (t ∷ ts) A =
    let rest = belows-length ts (λ u m. A u (Memᴰ.tail m)) in
    simp (length-append, suc-mul) (omega (arith, below_length t (A t (Memᴰ.head refl)), rest))

in-below : (t : Tree) (c : ℕ) → Memᴰ c (clades t) → (c ≡ clade t) ⊎ Memᴰ c (below t)
unfolding below
in-below (leaf n) c m = absurd (Memᴰ.not-nil m)
in-below (fork a b) c (Memᴰ.head e) = inl e
in-below (fork a b) c (Memᴰ.tail m) = inr m

in-belows : (ts : List Tree) (t : Tree) (c : ℕ) → Memᴰ t ts → Memᴰ c (below t) → Memᴰ c (belows ts)
unfolding belows
in-belows [] t c m n = absurd (Memᴰ.not-nil m)
in-belows (u ∷ us) t c (Memᴰ.head e) n = Memᴰ.append_left (belows us) (subst (λ (v : Tree). Memᴰ c (below v)) e n)
in-belows (u ∷ us) t c (Memᴰ.tail m) n = Memᴰ.append_right (below u) (in-belows us t c m n)

-- at most 62 clades of each tree, and the whole label set
pub supported-length : (ts : List Tree) → EachGood ts → (s : ℕ) → OneSet s ts → length (supported ts) ≤ length ts * (max_label - 2) + 1
supported-length ts A s one =
    let few = no_longer (supported ts) (s ∷ belows ts) (supported-nodup ts A) (λ c m. there c ((supported-in ts c).0 m)) in
    omega (arith, few, belows-length ts A)
  where
    put : (c : ℕ) (t : Tree) → Memᴰ t ts → (c ≡ clade t) ⊎ Memᴰ c (below t) → Memᴰ c (s ∷ belows ts)
    put c t m (inl e) = Memᴰ.head (e ∙ one t m)
    put c t m (inr n) = Memᴰ.tail (in-belows ts t c m n)

    there : (c : ℕ) → Occurs c ts → Memᴰ c (s ∷ belows ts)
    there c (t, m, n) = put c t m (in-below t c n)

-- 9,921 for 160 trees
pub supported-9921 : (ts : List Tree) → EachGood ts → (s : ℕ) → OneSet s ts → length ts ≤ max_trees → length (supported ts) ≤ max_clades
supported-9921 ts A s one h = omega (arith, supported-length ts A s one)

-- ---- the list in two steps: sorted by labels, then regrouped by number
-- clades in as many trees rank by their labels
even-sorted : (ts : List Tree) (n : ℕ) (xs : List ℕ) → ((x : ℕ) → Memᴰ x xs → holders ts x ≡ n) → Sorted by_labels xs → Sorted (ranks ts) xs
even-sorted ts n [] f r = tt
even-sorted ts n (x ∷ xs) f r = (
  λ y m. (ranks-iff ts x y).1 (inr (f y (Memᴰ.tail m) ∙ sym (f x (Memᴰ.head refl)), r.0 y m)),
  even-sorted ts n xs (λ y m. f y (Memᴰ.tail m)) r.1,
)

module _ (ts : List Tree) (cs : List ℕ) where
  -- those in exactly n trees
  abbrev group : ℕ → List ℕ
  group n = keep (λ d. eqb (holders ts d) n) cs

  group-iff : (n c : ℕ) → Memᴰ c (group n) ↔ (Memᴰ c cs × (holders ts c ≡ n))
  group-iff n c =
      let f = keep-iff (λ d. eqb (holders ts d) n) cs c in
      let e = T-eq (holders ts c) n in
      (λ m. ((f.0 m).0, e.0 (f.0 m).1), λ (m, q). f.1 (m, e.1 q))

  -- in 1 to n trees
  abbrev Within : ℕ → ℕ → Type 0
  Within n c = Memᴰ c cs × (1 ≤ holders ts c) × (holders ts c ≤ n)

  regrouped-in : (n c : ℕ) → Memᴰ c (regrouped ts n cs) → Within n c
  unfolding regrouped
  regrouped-in zero c m = absurd (Memᴰ.not-nil m)
  regrouped-in (suc n) c m = go (Memᴰ.append_cases (group (suc n)) m) (regrouped-in n c)
    where
      go : Memᴰ c (group (suc n)) ⊎ Memᴰ c (regrouped ts n cs) → (Memᴰ c (regrouped ts n cs) → Within n c) → Within (suc n) c
      go (inl i) f = let (k, e) = (group-iff (suc n) c).0 i in (k, omega arith, omega arith)
      go (inr i) f = let (k, h, g) = f i in (k, h, omega arith)

  in-regrouped : (n c : ℕ) → Within n c → Memᴰ c (regrouped ts n cs)
  unfolding regrouped
  in-regrouped zero c (m, h, g) = absurd (omega arith)
  in-regrouped (suc n) c (m, h, g) = go (ℕ_discrete (holders ts c) (suc n)) (λ k. in-regrouped n c (m, h, k))
    where
      go : Dec (holders ts c ≡ suc n) → (holders ts c ≤ n → Memᴰ c (regrouped ts n cs)) → Memᴰ c (group (suc n) ++ regrouped ts n cs)
      go (yes e) f = Memᴰ.append_left (regrouped ts n cs) ((group-iff (suc n) c).1 (m, e))
      go (no q) f = Memᴰ.append_right (group (suc n)) (f (omega arith))

  regrouped-sorted : Sorted by_labels cs → (n : ℕ) → Sorted (ranks ts) (regrouped ts n cs)
  unfolding regrouped
  regrouped-sorted r zero = tt
  regrouped-sorted r (suc n) =
      let kept = keep-sorted (λ d. eqb (holders ts d) (suc n)) by_labels cs r in
      let first = even-sorted ts (suc n) (group (suc n)) (λ x m. ((group-iff (suc n) x).0 m).1) kept in
      sorted-append (ranks ts) (group (suc n)) (regrouped ts n cs) first (regrouped-sorted r n)
      (λ x y m k. (ranks-iff ts x y).1 (inl (omega (arith, ((group-iff (suc n) x).0 m).1, (regrouped-in n y k).2))))

  -- any list of the clades once by their labels, regrouped by number from the number of trees down, is the support list
  pub supported-regrouped : EachGood ts → Sorted by_labels cs → ((c : ℕ) → Memᴰ c cs ↔ Occurs c ts) → regrouped ts (length ts) cs ≡ supported ts
  supported-regrouped A r f = supported-unique ts A (regrouped ts (length ts) cs) (regrouped-sorted r (length ts)) (λ c. (
    λ m. (f c).0 (regrouped-in (length ts) c m).0,
    λ o. in-regrouped (length ts) c ((f c).1 o, (holders-iff ts c).1 o, holders-le ts c),
  ))

-- and so is the list of distinct clades sorted by labels and regrouped
pub supported-two-steps : (ts : List Tree) → EachGood ts → regrouped ts (length ts) (sort_by by_labels (once (pooled ts))) ≡ supported ts
supported-two-steps ts A =
    let sorted = sort_sorted by_labels labels-strict (once (pooled ts)) (λ c m. occurs-lt ts A c ((distinct-iff c ts).0 m)) (once-nodup (pooled ts)) in
    supported-regrouped ts (sort_by by_labels (once (pooled ts))) A sorted (λ c. iff-then (sort-in by_labels (once (pooled ts)) c) (distinct-iff c ts))
