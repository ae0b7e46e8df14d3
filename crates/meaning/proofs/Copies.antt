-- Copies of a table's trees: the first position of each topology; and the graph of first positions beside that of all.
-- Assumes nothing.
use mathlib.Core.Path.{◌≡◌, refl, sym, ap, ap₂, subst, ◌∙◌}
use mathlib.Core.Logic.{◌↔◌, ◌≢◌, ◌⊎◌, inl, inr}
use mathlib.Core.Bool.{Bool, true, false, cond}
use mathlib.Core.List.{List, [], ◌∷◌, Memᴰ}
use Prim.Native.Nat.{ℕ, zero, suc, ◌+◌, ◌≤◌, ◌<◌, min, max}
use native.Mathlib.Omega.{arith}
use native.Mathlib.Decide.{ℕ_discrete, dec_le}
use borrow.Author.Tests.{eqb-true}
use lib.Dec.{T, eqb, eqb→eq, eqb_refl}
use lib.ListN.{length, drop, get_or, get_or-append}
use Rattle.meaning.specs.Tree.{Tree, leaf, Distinct, AllGood, SameTopology, canon}
use Rattle.meaning.specs.Move.{Apart}
use Rattle.meaning.specs.Interchange.{OneInterchange}
use Rattle.meaning.specs.Lists.{count, positions, bit}
use Rattle.meaning.specs.Decide.{eq_tree, is_same_topology}
use Rattle.meaning.specs.Listing.{Pair, Listing, At, tree_of, touches, neighbours, counts, copy_of, copies}
use Rattle.meaning.specs.Copies.{first_passing, first_of, firsts_of, merged, LinkedBy}
use Rattle.meaning.specs.Answer.{FirstsMemory}
use Rattle.meaning.specs.Calls.{firsts_graph_of}
use Rattle.meaning.proofs.Logic.{cases}
use Rattle.meaning.proofs.Counts.{counts-length, counts-at}
use Rattle.meaning.proofs.Sums.{count_map, count-positions, upto-same, bit-iff}
use Rattle.meaning.proofs.TableText.{good-at}
use Rattle.meaning.proofs.Moves.{apart-sym, apart-topology}
use Rattle.meaning.proofs.Interchange.{interchange-sym, interchange-topology, interchange-apart}
use Rattle.meaning.proofs.Same.{topology-sym}
use Rattle.meaning.proofs.Unlinked.{copy-canon, copy-iff}

module _ {A : Type 0} (test : A → Bool) (d : A) where
  -- the first that passes is the one that passes and has none before it
  pub first-is : (xs : List A) (i : ℕ) → i < length xs → T (test (get_or xs i d)) → ((j : ℕ) → j < i → ¬ T (test (get_or xs j d))) → first_passing test xs ≡ i
  first-is [] i h t none = absurd (omega arith)
  first-is (x ∷ xs) zero h t none = cases (λ b. T b → cond b 0 (suc (first_passing test xs)) ≡ 0) (test x) (λ _ _. refl) (λ _ f. absurd f) t
  first-is (x ∷ xs) (suc i) h t none =
      cases (λ b. ¬ T b → cond b 0 (suc (first_passing test xs)) ≡ suc i) (test x) (λ _ n. absurd (n tt))
      (λ _ _. ap suc (first-is xs i (omega arith) t (λ j l. none (suc j) (omega arith)))) (none 0 (omega arith))

  -- where some member passes, the first does
  first_passes : (xs : List A) (i : ℕ) → i < length xs → T (test (get_or xs i d)) → (first_passing test xs ≤ i) × T (test (get_or xs (first_passing test xs) d))
  first_passes [] i h t = absurd (omega arith)
  first_passes (x ∷ xs) zero h t =
      cases (λ b. test x ≡ b → (cond b 0 (suc (first_passing test xs)) ≤ 0) × T (test (get_or (x ∷ xs) (cond b 0 (suc (first_passing test xs))) d))) (test x)
      (λ _ _. (omega arith, t)) (λ _ e. absurd (subst T e t)) refl
  first_passes (x ∷ xs) (suc i) h t =
      let rest = first_passes xs i (omega arith) t in
      cases (λ b. test x ≡ b → (cond b 0 (suc (first_passing test xs)) ≤ suc i) × T (test (get_or (x ∷ xs) (cond b 0 (suc (first_passing test xs))) d))) (test x)
      (λ _ e. (omega arith, subst T (sym e) tt)) (λ _ _. (omega (arith, rest.0), rest.1)) refl

-- ---- the firsts of a list's trees
-- a position's first is a copy, at the position or before it
first-copy : (ts : List Tree) (i : ℕ) → i < length ts → (first_of ts i ≤ i) × T (copy_of ts i (first_of ts i))
first-copy ts i h = first_passes (is_same_topology (tree_of ts i)) (leaf 0) ts i h ((copy-canon ts i i).1 refl)

module _ (ts : List Tree) (i j : ℕ) (h : i < length ts) (l : j < length ts) where
  -- copies have the same first, and only they
  pub firsts-iff : T (eqb (first_of ts j) (first_of ts i)) ↔ T (copy_of ts i j)
  firsts-iff = (
    λ t.
        let one = (copy-canon ts i (first_of ts i)).0 (first-copy ts i h).1 in
        let two = (copy-canon ts j (first_of ts j)).0 (first-copy ts j l).1 in
        (copy-canon ts i j).1 (one ∙ ap (λ (x : ℕ). canon (tree_of ts x)) (sym (eqb→eq (first_of ts j) (first_of ts i) t)) ∙ sym two),
    λ t.
        let e = (copy-canon ts i j).0 t in
        let same : first_of ts i ≡ first_of ts j = ap (λ (v : Tree). first_passing (λ u. eq_tree v (canon u)) ts) e in
        subst (λ (x : ℕ). T (eqb (first_of ts j) x)) (sym same) (eqb_refl (first_of ts j)),
  )

module _ (ts : List Tree) (i : ℕ) (h : i < length ts) where
  pub first-le : first_of ts i ≤ i
  first-le = (first-copy ts i h).0

  pub first-inside : first_of ts i < length ts
  first-inside = omega (arith, first-le)

  -- two positions have one first exactly when they are copies
  pub first-iff : (j : ℕ) → j < length ts → (first_of ts j ≡ first_of ts i) ↔ T (copy_of ts i j)
  first-iff j l = (
    λ e. (firsts-iff ts i j h l).0 (subst (λ (x : ℕ). T (eqb (first_of ts j) x)) e (eqb_refl (first_of ts j))),
    λ t. eqb→eq (first_of ts j) (first_of ts i) ((firsts-iff ts i j h l).1 t),
  )

  -- a first is its own first, and the smallest position of its topology
  pub first-own : first_of ts (first_of ts i) ≡ first_of ts i
  first-own = (first-iff (first_of ts i) first-inside).1 (first-copy ts i h).1

  -- the tree there has the topology
  pub first-topology : AllGood ts → SameTopology (tree_of ts i) (tree_of ts (first_of ts i))
  first-topology G = (copy-iff ts G i (first_of ts i) h first-inside).0 (first-copy ts i h).1

pub first-smallest : (ts : List Tree) (i j : ℕ) → i < length ts → j < length ts → T (copy_of ts i j) → first_of ts i ≤ j
first-smallest ts i j h l t = omega (arith, (first-iff ts i h j l).1 t, first-le ts j l)

-- so a position's copies are as many as have its first
pub copies-firsts : (ts : List Tree) (i : ℕ) → i < length ts → count (λ y. eqb y (first_of ts i)) (firsts_of ts) ≡ copies ts i
copies-firsts ts i h =
    let p : ℕ → Bool = λ j. eqb (first_of ts j) (first_of ts i) in
    count_map (λ y. eqb y (first_of ts i)) (first_of ts) (positions (length ts))
    ∙ count-positions p (length ts)
    ∙ upto-same (λ j. bit (p j)) (λ j. bit (copy_of ts i j)) (length ts) (λ j l. bit-iff (p j) (copy_of ts i j) (firsts-iff ts i j h l))
    ∙ sym (count-positions (copy_of ts i) (length ts))

-- ---- relations that hang on topologies
-- R reads the same from either tree, hangs on the topologies only, and does not hold within one
pub record OnTopologies (R : Tree → Tree → Type 0) : Type 0 where
  pub turns : (t u : Tree) → Distinct t → Distinct u → R t u → R u t
  pub same : (t t' u u' : Tree) → Distinct t → Distinct t' → Distinct u → Distinct u' → SameTopology t t' → SameTopology u u' → R t u → R t' u'
  pub differ : (t u : Tree) → Distinct t → Distinct u → R t u → ¬ SameTopology t u

pub moves-on : OnTopologies Apart
moves-on = record { turns = λ t u D E a. apart-sym D E a; same = λ t t' u u' D D' E E' e f a. apart-topology D D' E E' e f a; differ = λ t u D E a. a.0 }

pub interchanges-on : OnTopologies OneInterchange
interchanges-on = record {
  turns = λ t u D E a. interchange-sym D E a;
  same = λ t t' u u' D D' E E' e f a. interchange-topology D D' e f a;
  differ = λ t u D E a. (interchange-apart D a).0;
}

-- two positions, the smaller first
abbrev pub ordered : ℕ → ℕ → Pair
ordered i j = (min i j, max i j)

module _ {R : Tree → Tree → Type 0} (O : OnTopologies R) (ts : List Tree) (G : AllGood ts) where
  distinct : (i : ℕ) → i < length ts → Distinct (tree_of ts i)
  distinct i h = (good-at ts G i h).distinct

  turned : (i j : ℕ) → i < length ts → j < length ts → At R ts i j → At R ts j i
  turned i j h l a = O.turns (tree_of ts i) (tree_of ts j) (distinct i h) (distinct j l) a

  module _ (i j : ℕ) (h : i < length ts) (l : j < length ts) where
    abbrev a : ℕ
    a = first_of ts i

    abbrev b : ℕ
    b = first_of ts j

    a_in : a < length ts
    a_in = first-inside ts i h

    b-in : b < length ts
    b-in = first-inside ts j l

    -- trees are so related exactly where their firsts are
    pub firsts-related : At R ts i j ↔ At R ts a b
    firsts-related = (
      O.same (tree_of ts i) (tree_of ts a) (tree_of ts j) (tree_of ts b) (distinct i h) (distinct a a_in) (distinct j l) (distinct b b-in) (first-topology ts i h G) (first-topology ts j l G),
      O.same (tree_of ts a) (tree_of ts i) (tree_of ts b) (tree_of ts j) (distinct a a_in) (distinct i h) (distinct b b-in) (distinct j l)
          (topology-sym (first-topology ts i h G)) (topology-sym (first-topology ts j l G)),
    )

    -- and only where these differ
    pub firsts-differ : At R ts i j → a ≢ b
    firsts-differ r e = O.differ (tree_of ts i) (tree_of ts j) (distinct i h) (distinct j l) r ((copy-iff ts G i j h l).0 ((first-iff ts i h j l).0 (sym e)))

    -- in either order
    pub ordered-related : At R ts i j ↔ (a ≢ b) × At R ts (min a b) (max a b)
    ordered-related = by (dec_le a b)
      where
        by : Dec (a ≤ b) → At R ts i j ↔ (a ≢ b) × At R ts (min a b) (max a b)
        by (yes g) =
            let e : min a b ≡ a = omega arith in
            let f : max a b ≡ b = omega arith in
            rw (e, f) (λ r. (firsts-differ r, firsts-related.0 r), λ x. firsts-related.1 x.1)
        by (no g) =
            let e : min a b ≡ b = omega arith in
            let f : max a b ≡ a = omega arith in
            rw (e, f) (λ r. (firsts-differ r, turned a b a_in b-in (firsts-related.0 r)), λ x. firsts-related.1 (turned b a b-in a_in x.1))

-- ---- the graph of first positions, and that of all
-- where no member passes a test, none is counted
none-count : {A : Type 0} (test : A → Bool) (xs : List A) → ((x : A) → Memᴰ x xs → ¬ T (test x)) → count test xs ≡ 0
none-count test [] none = refl
none-count test (x ∷ xs) none =
    let rest = none-count test xs (λ y m. none y (Memᴰ.tail m)) in
    cases (λ b. ¬ T b → bit b + count test xs ≡ 0) (test x) (λ _ n. absurd (n tt)) (λ _ _. omega (arith, rest)) (none x (Memᴰ.head refl))

-- a pair that touches a position has it
touched : (i : ℕ) (p : Pair) → T (touches i p) → (p.0 ≡ i) ⊎ (p.1 ≡ i)
touched i p t = by (eqb p.0 i) refl
  where
    by : (b : Bool) → eqb p.0 i ≡ b → (p.0 ≡ i) ⊎ (p.1 ≡ i)
    by true e = inl (eqb-true p.0 i e)
    by false e = inr (eqb→eq p.1 i (rw e at t))

-- the smaller and the larger of two are among them
pub of_two : (P : ℕ → Type 0) (a b : ℕ) → P a → P b → P (min a b) × P (max a b)
of_two P a b p q = by (dec_le a b)
  where
    by : Dec (a ≤ b) → P (min a b) × P (max a b)
    by (yes g) =
        let e : min a b ≡ a = omega arith in
        let f : max a b ≡ b = omega arith in
        rw (e, f) (p, q)
    by (no g) =
        let e : min a b ≡ b = omega arith in
        let f : max a b ≡ a = omega arith in
        rw (e, f) (q, p)

pub ordered-less : (a b : ℕ) → a ≢ b → min a b < max a b
ordered-less a b n = by (ℕ_discrete a b)
  where
    by : Dec (a ≡ b) → min a b < max a b
    by (yes e) = absurd (n e)
    by (no _) = omega arith

module _ {R : Tree → Tree → Type 0} (O : OnTopologies R) (ts : List Tree) (G : AllGood ts) {ps : List Pair} (M : Listing (length ts) (LinkedBy merged R ts) ps) where
  -- two topologies that occur are so related exactly where their firsts are listed
  pub firsts-listed : (i j : ℕ) → i < length ts → j < length ts → At R ts i j ↔ Memᴰ (ordered (first_of ts i) (first_of ts j)) ps
  firsts-listed i j h l =
      let a = first_of ts i in
      let b = first_of ts j in
      let related = ordered-related O ts G i j h l in
      let inside = of_two (λ x. x < length ts) a b (first-inside ts i h) (first-inside ts j l) in
      let own = of_two (λ x. first_of ts x ≡ x) a b (first-own ts i h) (first-own ts j l) in (
        λ r. let (n, q) = related.0 r in (M.listed (min a b) (max a b)).1 (ordered-less a b n, inside.1, (own.0, own.1, q)),
        λ m. let x = (M.listed (min a b) (max a b)).0 m in related.1 (λ e. omega (arith, e, x.0), x.2.2),
      )

  -- each once: the firsts are the only listed pair of these topologies
  pub listed-firsts : (i j x y : ℕ) → i < length ts → j < length ts → Memᴰ (x, y) ps → (T (copy_of ts i x) × T (copy_of ts j y)) ⊎ (T (copy_of ts j x) × T (copy_of ts i y))
      → ◌≡◌ {A = Pair} (x, y) (ordered (first_of ts i) (first_of ts j))
  listed-firsts i j x y h l m of =
      let (lt, y-in, (e, f, r)) = (M.listed x y).0 m in
      by of lt (omega arith) y-in e f
    where
      by : (T (copy_of ts i x) × T (copy_of ts j y)) ⊎ (T (copy_of ts j x) × T (copy_of ts i y)) → x < y → x < length ts → y < length ts → first_of ts x ≡ x → first_of ts y ≡ y
          → ◌≡◌ {A = Pair} (x, y) (ordered (first_of ts i) (first_of ts j))
      by (inl c) lt x-in y-in e f =
          let u : x ≡ first_of ts i = sym e ∙ (first-iff ts i h x x-in).1 c.0 in
          let v : y ≡ first_of ts j = sym f ∙ (first-iff ts j l y y-in).1 c.1 in
          ap₂ (λ (m n : ℕ). (m, n)) (omega arith) (omega arith)
      by (inr c) lt x-in y-in e f =
          let u : x ≡ first_of ts j = sym e ∙ (first-iff ts j l x x-in).1 c.0 in
          let v : y ≡ first_of ts i = sym f ∙ (first-iff ts i h y y-in).1 c.1 in
          ap₂ (λ (m n : ℕ). (m, n)) (omega arith) (omega arith)

  module _ {qs : List Pair} (K : Listing (length ts) (At R ts) qs) where
    -- the merged graph is the other restricted to first positions
    pub merged-restricts : (i j : ℕ) → Memᴰ (i, j) ps ↔ (Memᴰ (i, j) qs × (first_of ts i ≡ i) × (first_of ts j ≡ j))
    merged-restricts i j = (
      λ m. let (h, l, (e, f, r)) = (M.listed i j).0 m in ((K.listed i j).1 (h, l, r), e, f),
      λ x. let (h, l, r) = (K.listed i j).0 x.0 in (M.listed i j).1 (h, l, (x.1, x.2, r)),
    )

    -- and the other is the merged one copied out
    pub kept-copied-out : (i j : ℕ) → Memᴰ (i, j) qs ↔ ((i < j) × (j < length ts) × Memᴰ (ordered (first_of ts i) (first_of ts j)) ps)
    kept-copied-out i j = (
      λ m. let (h, l, r) = (K.listed i j).0 m in (h, l, (firsts-listed i j (omega arith) l).0 r),
      λ x. let (h, l, m) = x in (K.listed i j).1 (h, l, (firsts-listed i j (omega arith) l).1 m),
    )

-- a copy stands in no pair, so its count is 0
pub copy-count : (R : Tree → Tree → Type 0) (ts : List Tree) {ps : List Pair} → Listing (length ts) (LinkedBy merged R ts) ps → (i : ℕ) → first_of ts i ≢ i → neighbours ps i ≡ 0
copy-count R ts {ps} M i n = none-count (touches i) ps (λ p m t. by p ((M.listed p.0 p.1).0 m) (touched i p t))
  where
    by : (p : Pair) → (p.0 < p.1) × (p.1 < length ts) × LinkedBy merged R ts p.0 p.1 → (p.0 ≡ i) ⊎ (p.1 ≡ i) → ⊥
    by p (_, _, (e, f, r)) (inl g) = n (subst (λ (x : ℕ). first_of ts x ≡ x) g e)
    by p (_, _, (e, f, r)) (inr g) = n (subst (λ (x : ℕ). first_of ts x ≡ x) g f)

-- what the graph call leaves of a copy's count
pub copy-zero : (ts : List Tree) {ps : List Pair} (memory : FirstsMemory) → Listing (length ts) (LinkedBy merged Apart ts) ps → (i : ℕ) → i < length ts → first_of ts i ≢ i
    → get_or (firsts_graph_of ts ps memory).memory.graph.counts i 0 ≡ 0
copy-zero ts {ps} memory M i h n =
    get_or-append (counts (length ts) ps) (drop (length (counts (length ts) ps)) memory.graph.counts) 0 i (omega (arith, counts-length (length ts) ps))
    ∙ counts-at (length ts) ps i h ∙ copy-count Apart ts M i n
