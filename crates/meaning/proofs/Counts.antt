-- Neighbour counts of a listing: their sum, their bounds, and how a further pair changes them.
-- Assumes nothing.
use mathlib.Core.Path.{◌≡◌, refl, sym, ap₂, ◌∙◌, subst}
use mathlib.Core.Logic.{◌⊎◌, inl, inr}
use mathlib.Core.Bool.{Bool, true, false, ◌&&◌, ◌||◌, not, and_comm}
use mathlib.Core.List.Memᴰ
use mathlib.Core.List.{List, [], ◌∷◌, ◌++◌, Memᴰ}
use Prim.Native.Nat.{ℕ, ◌+◌, ◌-◌, ◌*◌, ◌/◌, ◌≤◌, ◌<◌, min, max}
use native.Mathlib.Nat.{mul-le-mul, min-eq_left, min-eq_right, max-eq_left, max-eq_right}
use native.Mathlib.Omega.{arith}
use native.Mathlib.Decide.{ℕ_discrete, dec_lt}
use borrow.Author.Tests.{eqb-true, eq-eqb, ne_eqb}
use lib.Dec.{T, eqb, eqb→eq, eqb_refl}
use lib.ListN.{length, get_or, replicate, length-set, length-replicate, get_or-replicate}
use lib.Seq.{get_or-set_same, get_or-set_other, ext_get_or}
use Rattle.meaning.specs.Limits.{max_trees, pair_numbers}
use Rattle.meaning.specs.Lists.{count, positions, more, sum, upto, bit}
use Rattle.meaning.specs.Listing.{Pair, Ascending, Listing, touches, neighbours, counts, paired, flat}
use Rattle.meaning.proofs.Logic.{T_and, T-left, T-right, cases}
use Rattle.meaning.proofs.Lists.{any-mem, mem-any}
use Rattle.meaning.proofs.Listing.{before-ne, listing-iff}
use Rattle.meaning.proofs.Sums.{count-append, map-length, map_at, map-sum, count-positions, upto_add, upto_le, upto-same, upto-const, bit-one, bit-none, bit_or, upto-at, upto-and, and-upto}

-- the counts are k numbers
pub counts-length : (k : ℕ) (ps : List Pair) → length (counts k ps) ≡ k
counts-length k ps = map-length (neighbours ps) k

-- and the i-th is that of position i
pub counts-at : (k : ℕ) (ps : List Pair) (i : ℕ) → i < k → get_or (counts k ps) i 0 ≡ neighbours ps i
counts-at k ps i h = map_at (neighbours ps) k i h

-- any k numbers that are so are the counts
pub counts-ext : (k : ℕ) (ps : List Pair) (cs : List ℕ) → length cs ≡ k → ((i : ℕ) → i < k → neighbours ps i ≡ get_or cs i 0) → counts k ps ≡ cs
counts-ext k ps cs e f =
    ext_get_or 0 (counts k ps) cs (counts-length k ps ∙ sym e) (λ i l.
    let h : i < k = omega (arith, counts-length k ps) in
    counts-at k ps i h ∙ f i h)

-- the counts of two lists together add up
pub neighbours-append : (ps qs : List Pair) (i : ℕ) → neighbours (ps ++ qs) i ≡ neighbours ps i + neighbours qs i
neighbours-append ps qs i = count-append (touches i) ps qs

-- each pair is of two positions below k, the smaller first
abbrev Below : ℕ → List Pair → Type 0
Below k ps = (p : Pair) → Memᴰ p ps → (p.0 < p.1) × (p.1 < k)

-- so it is in a listing
below : {k : ℕ} {L : ℕ → ℕ → Type 0} {ps : List Pair} → Listing k L ps → Below k ps
below H p m = let x = (H.listed p.0 p.1).0 m in (x.0, x.1)

-- a pair touches its two positions
touches-bits : (p : Pair) → p.0 < p.1 → (i : ℕ) → bit (touches i p) ≡ bit (eqb p.0 i) + bit (eqb p.1 i)
touches-bits p h i = bit_or (eqb p.0 i) (eqb p.1 i) (λ s t. omega (arith, eqb→eq p.0 i s, eqb→eq p.1 i t))

touches-two : (p : Pair) (k : ℕ) → p.0 < p.1 → p.1 < k → upto (λ i. bit (touches i p)) k ≡ 2
touches-two p k h l =
    upto-same (λ i. bit (touches i p)) (λ i. bit (eqb p.0 i) + bit (eqb p.1 i)) k (λ i _. touches-bits p h i)
    ∙ upto_add (λ i. bit (eqb p.0 i)) (λ i. bit (eqb p.1 i)) k
    ∙ ap₂ ◌+◌ (upto-at p.0 k (omega arith)) (upto-at p.1 k l)

-- each pair is counted at two positions
neighbours-twice : (k : ℕ) (ps : List Pair) → Below k ps → upto (neighbours ps) k ≡ 2 * length ps
neighbours-twice k [] B = omega (arith, upto-const 0 k)
neighbours-twice k (p ∷ ps) B =
    let x = B p (Memᴰ.head refl) in
    omega (arith, upto_add (λ i. bit (touches i p)) (neighbours ps) k, touches-two p k x.0 x.1, neighbours-twice k ps (λ q m. B q (Memᴰ.tail m)))

-- the neighbour counts add up to two for each pair
pub counts-twice : {k : ℕ} {L : ℕ → ℕ → Type 0} {ps : List Pair} → Listing k L ps → sum (counts k ps) ≡ 2 * length ps
counts-twice {k} {ps} H = map-sum (neighbours ps) k ∙ neighbours-twice k ps (below H)

-- p is the pair q
abbrev same_pair : Pair → Pair → Bool
same_pair q p = eqb p.0 q.0 && eqb p.1 q.1

-- how often q stands in the list
abbrev times : List Pair → Pair → ℕ
times ps q = count (same_pair q) ps

-- position i stands in the pairs (i, j) and in the pairs (j, i)
neighbours-times : (k : ℕ) (ps : List Pair) → Below k ps → (i : ℕ) → neighbours ps i ≡ upto (λ j. times ps (i, j)) k + upto (λ j. times ps (j, i)) k
neighbours-times k [] B i = omega (arith, upto-const 0 k)
neighbours-times k (p ∷ ps) B i =
    let x = B p (Memᴰ.head refl) in
    omega (
      arith,
      touches-bits p x.0 i,
      upto_add (λ j. bit (same_pair (i, j) p)) (λ j. times ps (i, j)) k,
      upto-and (eqb p.0 i) p.1 k x.1,
      upto_add (λ j. bit (same_pair (j, i) p)) (λ j. times ps (j, i)) k,
      and-upto (eqb p.1 i) p.0 k (omega arith),
      neighbours-times k ps (λ q m. B q (Memᴰ.tail m)) i,
    )

module _ (q : Pair) where
  -- the test passes at q alone
  same-eq : (p : Pair) → T (same_pair q p) → q ≡ p
  same-eq p t = let (a, b) = (T_and (eqb p.0 q.0) (eqb p.1 q.1)).0 t in λ i. (sym (eqb→eq p.0 q.0 a) i, sym (eqb→eq p.1 q.1 b) i)

  eq-same : (p : Pair) → q ≡ p → T (same_pair q p)
  eq-same p e = subst (λ (r : Pair). T (same_pair q r)) e ((T_and (eqb q.0 q.0) (eqb q.1 q.1)).1 (eqb_refl q.0, eqb_refl q.1))

  -- a pair that is counted is listed
  times-mem : (ps : List Pair) → 1 ≤ times ps q → Memᴰ q ps
  times-mem [] h = absurd (omega arith)
  times-mem (p ∷ ps) h = go (same_pair q p) (same-eq p) h (times-mem ps)
    where
      go : (b : Bool) → (T b → q ≡ p) → 1 ≤ bit b + times ps q → (1 ≤ times ps q → Memᴰ q ps) → Memᴰ q (p ∷ ps)
      go true e l f = Memᴰ.head (e tt)
      go false e l f = Memᴰ.tail (f (omega arith))

  -- a pair that is not listed
  times_none : (ps : List Pair) → ¬ Memᴰ q ps → times ps q ≡ 0
  times_none ps f =
      let h : ¬ (1 ≤ times ps q) = λ l. f (times-mem ps l) in
      omega arith

  -- a pair that is
  times-one : {ps : List Pair} → Ascending ps → Memᴰ q ps → times ps q ≡ 1
  unfolding Ascending
  times-one a (Memᴰ.head {x = p} {xs} e) = omega (arith, bit-one (same_pair q p) (eq-same p e), times_none xs (λ n. before-ne (a.0 q n) (sym e)))
  times-one a (Memᴰ.tail {x = p} m) = omega (arith, bit-none (same_pair q p) (λ t. before-ne (a.0 q m) (sym (same-eq p t))), times-one a.1 m)

-- the test reads a pair of positions in either order, and a position is not linked to itself
abbrev pub is_linked : (ℕ → ℕ → Bool) → ℕ → ℕ → Bool
is_linked test i j = not (eqb i j) && test (min i j) (max i j)

module _ (test : ℕ → ℕ → Bool) (i j : ℕ) where
  linked_up : i < j → is_linked test i j ≡ test i j
  linked_up h = rw (ne_eqb i j (omega arith), min-eq_left {n = i} {m = j} (omega arith), max-eq_right {n = i} {m = j} (omega arith))

  linked-down : j < i → is_linked test i j ≡ test j i
  linked-down h = rw (ne_eqb i j (omega arith), min-eq_right {n = j} {m = i} (omega arith), max-eq_left {n = i} {m = j} (omega arith))

  linked-self : i ≡ j → is_linked test i j ≡ false
  linked-self e = rw (eq-eqb i j e)

module _ {k : ℕ} (test : ℕ → ℕ → Bool) {ps : List Pair} (H : Listing k (λ i j. T (test i j)) ps) where
  -- a pair in order is listed once where it passes the test
  times-test : (i j : ℕ) → i < j → j < k → times ps (i, j) ≡ bit (test i j)
  times-test i j h l = go (test i j) (H.listed i j).1 (H.listed i j).0
    where
      go : (b : Bool) → ((i < j) × (j < k) × T b → Memᴰ (i, j) ps) → (Memᴰ (i, j) ps → (i < j) × (j < k) × T b) → times ps (i, j) ≡ bit b
      go true f g = times-one (i, j) H.ascending (f (h, l, tt))
      go false f g = times_none (i, j) ps (λ m. (g m).2)

  -- a pair out of order is not listed
  times-unordered : (i j : ℕ) → j ≤ i → times ps (i, j) ≡ 0
  times-unordered i j h = times_none (i, j) ps (λ m. let x = ((H.listed i j).0 m).0 in omega arith)

  -- so a pair in either order is listed where the test links the positions
  times-linked : (i j : ℕ) → i < k → j < k → times ps (i, j) + times ps (j, i) ≡ bit (is_linked test i j)
  times-linked i j h l = go (dec_lt i j) (dec_lt j i)
    where
      go : Dec (i < j) → Dec (j < i) → times ps (i, j) + times ps (j, i) ≡ bit (is_linked test i j)
      go (yes g) b = rw (linked_up test i j g) (omega (arith, times-test i j g l, times-unordered j i (omega arith)))
      go (no n) (yes g) = rw (linked-down test i j g) (omega (arith, times-test j i g h, times-unordered i j (omega arith)))
      go (no n) (no o) = rw (linked-self test i j (omega arith)) (omega (arith, times-unordered i j (omega arith), times-unordered j i (omega arith)))

  -- the neighbour count is the number of positions that the test links to i
  pub neighbours-are : (i : ℕ) → i < k → neighbours ps i ≡ count (is_linked test i) (positions k)
  neighbours-are i h =
      neighbours-times k ps (below H) i
      ∙ sym (upto_add (λ j. times ps (i, j)) (λ j. times ps (j, i)) k)
      ∙ upto-same (λ j. times ps (i, j) + times ps (j, i)) (λ j. bit (is_linked test i j)) k (λ j l. times-linked i j h l)
      ∙ sym (count-positions (is_linked test i) k)

-- at most all positions but one
linked-few : (test : ℕ → ℕ → Bool) (k i : ℕ) → i < k → count (is_linked test i) (positions k) + 1 ≤ k
linked-few test k i h =
    omega (
      arith,
      count-positions (is_linked test i) k,
      upto-at i k h,
      upto_add (λ j. bit (is_linked test i j)) (λ j. bit (eqb i j)) k,
      upto_le (λ j. bit (is_linked test i j) + bit (eqb i j)) (λ _. 1) k (λ j _. one (eqb i j) (test (min i j) (max i j))),
      upto-const 1 k,
    )
  where
    one : (a b : Bool) → bit (not a && b) + bit a ≤ 1
    one true b = omega arith
    one false true = omega arith
    one false false = omega arith

-- a pair touches a position that is its first or its second
touched : (x : ℕ) (p : Pair) → T (touches x p) → (p.0 ≡ x) ⊎ (p.1 ≡ x)
touched x p = cases (λ b. T (b || eqb p.1 x) → (p.0 ≡ x) ⊎ (p.1 ≡ x)) (eqb p.0 x) (λ e _. inl (eqb-true p.0 x e)) (λ _ t. inr (eqb→eq p.1 x t))

touches-first : (p : Pair) → T (touches p.0 p)
touches-first p = T-left (eqb p.0 p.0) (eqb p.1 p.0) (eqb_refl p.0)

touches-second : (p : Pair) → T (touches p.1 p)
touches-second p = T-right (eqb p.0 p.1) (eqb p.1 p.1) (eqb_refl p.1)

-- so a pair in order that touches i and j, which are in order, is their pair
touches-pair : (p : Pair) (i j : ℕ) → p.0 < p.1 → i < j → T (touches i p) → T (touches j p) → p ≡ (i, j)
touches-pair p i j l h f g = go (touched i p f) (touched j p g)
  where
    go : (p.0 ≡ i) ⊎ (p.1 ≡ i) → (p.0 ≡ j) ⊎ (p.1 ≡ j) → p ≡ (i, j)
    go (inl d) (inr e) = λ x. (d x, e x)
    go (inl d) (inl e) = absurd (omega arith)
    go (inr d) (inl e) = absurd (omega arith)
    go (inr d) (inr e) = absurd (omega arith)

-- a listed pair joins its positions
pub mem-paired : {ps : List Pair} {i j : ℕ} → Memᴰ (i, j) ps → T (paired ps i j)
mem-paired {i} {j} m = mem-any (λ p. touches i p && touches j p) m ((T_and (touches i (i, j)) (touches j (i, j))).1 (touches-first (i, j), touches-second (i, j)))

-- in either order
pub paired-sym : (ps : List Pair) (i j : ℕ) → paired ps i j ≡ paired ps j i
paired-sym [] i j = refl
paired-sym (p ∷ ps) i j = ap₂ ◌||◌ (and_comm (touches i p) (touches j p)) (paired-sym ps i j)

module _ {k : ℕ} {L : ℕ → ℕ → Type 0} {ps : List Pair} (H : Listing k L ps) where
  -- and positions in order that are joined are a listed pair
  pub paired-mem : {i j : ℕ} → i < j → T (paired ps i j) → Memᴰ (i, j) ps
  paired-mem {i} {j} h t =
      let (p, m, b) = any-mem (λ p. touches i p && touches j p) ps t in
      let (f, g) = (T_and (touches i p) (touches j p)).0 b in
      Memᴰ.cast (sym (touches-pair p i j (below H p m).0 h f g)) m

  -- so a listing is that of a test
  paired-listing : Listing k (λ i j. T (paired ps i j)) ps
  paired-listing = listing-iff (λ i j h l. (λ x. mem-paired ((H.listed i j).1 (h, l, x)), λ t. ((H.listed i j).0 (paired-mem h t)).2)) H

  -- the neighbour count is the number of other positions that a listed pair joins to i
  pub neighbours-paired : (i : ℕ) → i < k → neighbours ps i ≡ count (is_linked (paired ps) i) (positions k)
  neighbours-paired i h = neighbours-are (paired ps) paired-listing i h

  -- a position has at most k - 1 neighbours
  pub neighbours-le : (i : ℕ) → i < k → neighbours ps i ≤ k - 1
  neighbours-le i h = omega (arith, neighbours-paired i h, linked-few (paired ps) k i h)

  -- each of the k positions has at most k - 1 neighbours, and each pair is counted twice
  pub listing-length : 2 * length ps ≤ k * (k - 1)
  listing-length = omega (arith, neighbours-twice k ps (below H), upto_le (neighbours ps) (λ _. k - 1) k neighbours-le, upto-const (k - 1) k)

  -- so up to 160 positions have at most 12720 pairs
  pub listing-few : k ≤ max_trees → length ps ≤ pair_numbers / 2
  listing-few h =
      let few : k * (k - 1) ≤ pair_numbers = mul-le-mul {m₂ = max_trees - 1} h (omega arith) in
      omega (arith, listing-length)

-- the pairs as numbers are twice as many
pub flat-length : (ps : List Pair) → length (flat ps) ≡ 2 * length ps
unfolding flat
flat-length [] = refl
flat-length (p ∷ ps) = omega (arith, flat-length ps)

-- so up to 160 positions have at most 25440
pub flat-few : {k : ℕ} {L : ℕ → ℕ → Type 0} {ps : List Pair} → Listing k L ps → k ≤ max_trees → length (flat ps) ≤ pair_numbers
flat-few {ps} H h = omega (arith, flat-length ps, listing-few H h)

-- and join as the pairs do
pub flat_append : (ps qs : List Pair) → flat (ps ++ qs) ≡ flat ps ++ flat qs
unfolding flat
flat_append [] qs = refl
flat_append (p ∷ ps) qs = rw (flat_append ps qs)

-- one more at place i: what stands at place m then
pub more-at : (cs : List ℕ) (i m : ℕ) → i < length cs → get_or (more cs i) m 0 ≡ get_or cs m 0 + bit (eqb i m)
more-at cs i m h = go (ℕ_discrete i m)
  where
    go : Dec (i ≡ m) → get_or (more cs i) m 0 ≡ get_or cs m 0 + bit (eqb i m)
    go (yes e) = rw (eq-eqb i m e, ← e) (get_or-set_same cs i (get_or cs i 0 + 1) 0 h)
    go (no n) = rw (ne_eqb i m n) (omega (arith, get_or-set_other cs i m (get_or cs i 0 + 1) 0 (λ e. n (sym e))))

-- no pair is listed: all counts are 0
pub counts-none : (k : ℕ) → counts k [] ≡ replicate k 0
counts-none k = counts-ext k [] (replicate k 0) (length-replicate k 0) (λ m h. sym (get_or-replicate k m 0 0 h))

-- a further pair (i, j) is listed: one more at i and one more at j
pub neighbours-snoc : (k : ℕ) (ps : List Pair) (i j : ℕ) → i < j → j < k → counts k (ps ++ ((i, j) ∷ [])) ≡ more (more (counts k ps) i) j
neighbours-snoc k ps i j h l =
    let cs = counts k ps in
    counts-ext k (ps ++ ((i, j) ∷ [])) (more (more cs i) j) (simp length-set (counts-length k ps)) (λ m g. omega (
      arith,
      neighbours-append ps ((i, j) ∷ []) m,
      touches-bits (i, j) h m,
      counts-at k ps m g,
      more-at cs i m (omega (arith, counts-length k ps)),
      more-at (more cs i) j m (simp length-set (omega (arith, counts-length k ps))),
    ))
