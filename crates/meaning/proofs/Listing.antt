-- Listings of pairs: there is one for each relation, each pair stands in it once, and two nested loops make it.
-- Assumes nothing.
use mathlib.Core.Path.{◌≡◌, refl, sym, ap, ap₂, ◌∙◌, subst, subst₂}
use mathlib.Core.Logic.{◌↔◌, ◌≢◌, ◌⊎◌, inl, inr}
use mathlib.Core.Bool.{Bool, true, false}
use mathlib.Core.List.Memᴰ
use mathlib.Core.List.{List, [], ◌∷◌, ◌++◌, Memᴰ}
use Prim.Native.Nat.{ℕ, zero, suc, ◌+◌, ◌-◌, ◌≤◌, ◌<◌}
use native.Mathlib.Omega.{arith}
use native.Mathlib.Decide.{dec_lt}
use lib.Dec.{T}
use lib.ListN.{length, get_or}
use Rattle.meaning.specs.Listing.{Pair, Before, Ascending, Listing}
use Rattle.meaning.specs.Loops.{turns, each, pick, cell, row_of, row, pairs_from, pairs_of}
use Rattle.meaning.proofs.Lists.{numbered}
use Rattle.meaning.proofs.Loops.{each_step, each-end, turns-mem, each-mem, mem-each}

-- no pair stands before itself
pub before-ne : {p q : Pair} → Before p q → p ≢ q
before-ne (inl h) e = omega (arith, ap (λ (r : Pair). r.0) e)
before-ne (inr h) e = omega (arith, ap (λ (r : Pair). r.1) e)

-- of two pairs at most one stands before the other
pub before-asym : {p q : Pair} → Before p q → Before q p → ⊥
before-asym (inl h) (inl g) = omega arith
before-asym (inl h) (inr g) = omega arith
before-asym (inr h) (inl g) = omega arith
before-asym (inr h) (inr g) = omega arith

-- p stands before all of ps
abbrev Leads : Pair → List Pair → Type 0
Leads p ps = (r : Pair) → Memᴰ r ps → Before p r

-- so it is none of them
first-once : {p q : Pair} {ps : List Pair} → Leads p ps → Memᴰ q ps → q ≢ p
first-once a m e = before-ne (a _ m) (sym e)

-- two lists that ascend and have each other's first pair begin with the same
same_first : {p q : Pair} {ps qs : List Pair} → Leads p ps → Leads q qs → Memᴰ p (q ∷ qs) → Memᴰ q (p ∷ ps) → p ≡ q
same_first a b (Memᴰ.head e) n = e
same_first a b (Memᴰ.tail m) (Memᴰ.head e) = sym e
same_first a b (Memᴰ.tail m) (Memᴰ.tail n) = absurd (before-asym (a _ n) (b _ m))

-- a member that is not the first is one of the rest
rest-mem : {p r : Pair} {ps : List Pair} → Memᴰ r (p ∷ ps) → r ≢ p → Memᴰ r ps
rest-mem (Memᴰ.head e) h = absurd (h e)
rest-mem (Memᴰ.tail m) h = m

-- two lists that ascend and have the same members are the same
pub ascending-unique : {ps qs : List Pair} → Ascending ps → Ascending qs → ((p : Pair) → Memᴰ p ps ↔ Memᴰ p qs) → ps ≡ qs
unfolding Ascending
ascending-unique {ps = []} {qs = []} a b f = refl
ascending-unique {ps = []} {qs = q ∷ qs} a b f = absurd (Memᴰ.not-nil ((f q).1 (Memᴰ.head refl)))
ascending-unique {ps = p ∷ ps} {qs = []} a b f = absurd (Memᴰ.not-nil ((f p).0 (Memᴰ.head refl)))
ascending-unique {ps = p ∷ ps} {qs = q ∷ qs} a b f =
    let e : p ≡ q = same_first a.0 b.0 ((f p).0 (Memᴰ.head refl)) ((f q).1 (Memᴰ.head refl)) in
    ap₂ ◌∷◌ e (ascending-unique a.1 b.1 (λ r. (
      λ m. rest-mem ((f r).0 (Memᴰ.tail m)) (λ h. first-once a.0 m (h ∙ sym e)),
      λ m. rest-mem ((f r).1 (Memᴰ.tail m)) (λ h. first-once b.0 m (h ∙ e)),
    )))

-- a relation has one listing
pub listing-unique : {k : ℕ} {Linked : ℕ → ℕ → Type 0} {ps qs : List Pair} → Listing k Linked ps → Listing k Linked qs → ps ≡ qs
listing-unique H G = ascending-unique H.ascending G.ascending (λ p. (λ m. (G.listed p.0 p.1).1 ((H.listed p.0 p.1).0 m), λ m. (H.listed p.0 p.1).1 ((G.listed p.0 p.1).0 m)))

-- relations that agree have the same listing
pub listing-iff : {k : ℕ} {L M : ℕ → ℕ → Type 0} {ps : List Pair} → ((i j : ℕ) → i < j → j < k → L i j ↔ M i j) → Listing k L ps → Listing k M ps
listing-iff f H = record {
  ascending = H.ascending;
  listed = λ i j. (
    λ m. let (h, l, x) = (H.listed i j).0 m in (h, l, (f i j h l).0 x),
    λ x. (H.listed i j).1 (x.0, x.1, (f i j x.0 x.1).1 x.2),
  );
}

-- what stands earlier in the list stands before
pub ascending-at : (ps : List Pair) (d : Pair) → Ascending ps → (i j : ℕ) → i < j → j < length ps → Before (get_or ps i d) (get_or ps j d)
unfolding Ascending
ascending-at [] d a i j h l = absurd (omega arith)
ascending-at (p ∷ ps) d a i zero h l = absurd (omega arith)
ascending-at (p ∷ ps) d a zero (suc j) h l = a.0 _ (numbered ps d j (omega arith))
ascending-at (p ∷ ps) d a (suc i) (suc j) h l = ascending-at ps d a.1 i j (omega arith) (omega arith)

-- no pair stands at two places
pub listed-once : {k : ℕ} {Linked : ℕ → ℕ → Type 0} {ps : List Pair} → Listing k Linked ps → (d : Pair) (i j : ℕ) → i < length ps → j < length ps → i ≢ j → get_or ps i d ≢ get_or ps j d
listed-once {ps} H d i j h l n e = go (dec_lt i j)
  where
    go : Dec (i < j) → ⊥
    go (yes g) = before-ne (ascending-at ps d H.ascending i j g l) e
    go (no g) = before-ne (ascending-at ps d H.ascending j i (omega arith) h) (sym e)

-- two lists that ascend, all of the first before all of the second
ascending-append : (ps qs : List Pair) → Ascending ps → Ascending qs → ((p q : Pair) → Memᴰ p ps → Memᴰ q qs → Before p q) → Ascending (ps ++ qs)
unfolding Ascending
ascending-append [] qs a b f = b
ascending-append (p ∷ ps) qs a b f = (λ q m. go q (Memᴰ.append_cases ps m), ascending-append ps qs a.1 b (λ r q m. f r q (Memᴰ.tail m)))
  where
    go : (q : Pair) → Memᴰ q ps ⊎ Memᴰ q qs → Before p q
    go q (inl m) = a.0 q m
    go q (inr m) = f p q (Memᴰ.head refl) m

-- turns that each append an ascending list, all of it before what later turns append
module _ (f : ℕ → List Pair) (ascends : (j : ℕ) → Ascending (f j)) (later : (i j : ℕ) → i < j → (p q : Pair) → Memᴰ p (f i) → Memᴰ q (f j) → Before p q) where
  turns-ascending : (n from : ℕ) → Ascending (turns n from f)
  unfolding Ascending
  turns-ascending zero from = tt
  turns-ascending (suc n) from =
      ascending-append (f from) (turns n (from + 1) f) (ascends from) (turns-ascending n (from + 1))
      (λ p q m o. let (j, h, l, o') = turns-mem f n (from + 1) o in later from j (omega arith) p q m o')

  each-ascending : (from k : ℕ) → Ascending (each from k f)
  unfolding each
  each-ascending from k = turns-ascending (k - from) from

-- the one member of what a test picks
pick-mem : (b : Bool) {p q : Pair} → Memᴰ q (pick b p) → (p ≡ q) × T b
pick-mem true m = (sym (Memᴰ.eq_of_singleton m), tt)
pick-mem false m = absurd (Memᴰ.not-nil m)

mem-pick : (b : Bool) {p : Pair} → T b → Memᴰ p (pick b p)
mem-pick true t = Memᴰ.head refl
mem-pick false t = absurd t

pick-ascending : (b : Bool) (p : Pair) → Ascending (pick b p)
unfolding Ascending
pick-ascending true p = (λ q m. absurd (Memᴰ.not-nil m), tt)
pick-ascending false p = tt

module _ (k : ℕ) (test : ℕ → ℕ → Bool) where
  -- a turn of the inner loop
  pub row_step : (i j : ℕ) → j < k → row_of i j k test ≡ cell test i j ++ row_of i (j + 1) k test
  unfolding row_of
  row_step i j h = each_step (cell test i) j k h

  -- the inner loop is done
  pub row-end : (i j : ℕ) → k ≤ j → row_of i j k test ≡ []
  unfolding row_of
  row-end i j h = each-end (cell test i) j k h

  -- a turn of the outer loop
  pub pairs-step : (i : ℕ) → i < k → pairs_from i k test ≡ row_of i (i + 1) k test ++ pairs_from (i + 1) k test
  unfolding pairs_from
  pairs-step i h = each_step (row k test) i k h

  -- the outer loop is done
  pub pairs_end : (i : ℕ) → k ≤ i → pairs_from i k test ≡ []
  unfolding pairs_from
  pairs_end i h = each-end (row k test) i k h

  -- the members of a row
  row-mem : (i from : ℕ) {p : Pair} → Memᴰ p (row_of i from k test) → (i ≡ p.0) × (from ≤ p.1) × (p.1 < k) × T (test p.0 p.1)
  unfolding row_of
  row-mem i from {p} m =
      let (j, h, l, o) = each-mem (cell test i) from k m in
      let (e, t) = pick-mem (test i j) o in
      subst (λ (q : Pair). (i ≡ q.0) × (from ≤ q.1) × (q.1 < k) × T (test q.0 q.1)) e (refl, h, l, t)

  mem-row : (i from j : ℕ) → from ≤ j → j < k → T (test i j) → Memᴰ (i, j) (row_of i from k test)
  unfolding row_of
  mem-row i from j h l t = mem-each (cell test i) from k j h l (mem-pick (test i j) t)

  row-ascending : (i from : ℕ) → Ascending (row_of i from k test)
  unfolding row_of
  row-ascending i from = each-ascending (cell test i) (λ b. pick-ascending (test i b) (i, b)) (λ a b h p q m o. subst₂ Before (pick-mem (test i a) m).0 (pick-mem (test i b) o).0 (inr (refl, h))) from k

  -- the members of all rows
  pairs-mem : (p : Pair) → Memᴰ p (pairs_of k test) → (p.0 < p.1) × (p.1 < k) × T (test p.0 p.1)
  unfolding pairs_from
  pairs-mem p m =
      let (i, h, l, o) = each-mem (row k test) 0 k m in
      let (e, g, b, t) = row-mem i (i + 1) o in
      (omega arith, b, t)

  mem-pairs : (i j : ℕ) → i < j → j < k → T (test i j) → Memᴰ (i, j) (pairs_of k test)
  unfolding pairs_from
  mem-pairs i j h l t = mem-each (row k test) 0 k i (omega arith) (omega arith) (mem-row i (i + 1) j (omega arith) l t)

  pairs-ascending : Ascending (pairs_of k test)
  unfolding pairs_from
  pairs-ascending =
      each-ascending (row k test) (λ i. row-ascending i (i + 1)) (λ a b h p q m o.
      let e = row-mem a (a + 1) m in
      let g = row-mem b (b + 1) o in
      inl (omega arith)) 0 k

  -- so the loops make the listing of the pairs that pass the test
  pub pairs_of-lists : Listing k (λ i j. T (test i j)) (pairs_of k test)
  pairs_of-lists = record { ascending = pairs-ascending; listed = λ i j. (pairs-mem (i, j), λ x. mem-pairs i j x.0 x.1 x.2) }
