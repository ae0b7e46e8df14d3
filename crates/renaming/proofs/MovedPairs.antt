-- Listings before and after the positions are put in another order: the same pairs, as many, with their counts.
-- Assumes nothing.
use mathlib.Core.Path.{◌≡◌, sym, subst, ◌∙◌}
use mathlib.Core.Logic.{◌↔◌, inl, inr}
use mathlib.Core.List.{List}
use Prim.Native.Nat.{ℕ, ◌*◌, ◌<◌}
use native.Mathlib.Omega.{arith}
use native.Mathlib.Nat.{min-eq_left, min-eq_right, max-eq_left, max-eq_right}
use native.Mathlib.Decide.{dec_lt}
use borrow.Author.Tests.{eq-eqb, ne_eqb}
use lib.Dec.{T}
use lib.ListN.{length}
use Rattle.meaning.specs.Lists.{bit, upto}
use Rattle.meaning.specs.Listing.{Pair, Listing, neighbours, paired}
use Rattle.meaning.specs.Islands.{Joined}
use Rattle.meaning.proofs.Sums.{count-positions, upto-same, bit-iff, map-sum}
use Rattle.meaning.proofs.Counts.{is_linked, mem-paired, paired-mem, neighbours-paired, counts-twice}
use Rattle.renaming.specs.Reordering.{Order, came}
use Rattle.renaming.proofs.Orders.{came-inside, sum-came}

-- a relation between k positions that reads the same from either, and that none has to itself
pub record Mutual (k : ℕ) (L : ℕ → ℕ → Type 0) : Type 0 where
  pub turns : (i j : ℕ) → i < k → j < k → L i j → L j i
  pub differ : (i : ℕ) → i < k → L i i → ⊥

module _ {k : ℕ} {L : ℕ → ℕ → Type 0} (M : Mutual k L) {ps : List Pair} (H : Listing k L ps) where
  -- two positions are a listed pair, in either order, exactly when they are so related
  pub joined-iff : (i j : ℕ) → i < k → j < k → Joined ps i j ↔ L i j
  joined-iff i j h l = (to, from (dec_lt i j) (dec_lt j i))
    where
      to : Joined ps i j → L i j
      to (inl m) = ((H.listed i j).0 m).2
      to (inr m) = M.turns j i l h ((H.listed j i).0 m).2

      from : Dec (i < j) → Dec (j < i) → L i j → Joined ps i j
      from (yes g) _ a = inl ((H.listed i j).1 (g, l, a))
      from (no _) (yes g) a = inr ((H.listed j i).1 (g, h, M.turns i j h l a))
      from (no n) (no m) a = let e : j ≡ i = omega arith in absurd (M.differ i h (subst (L i) e a))

  -- and exactly when the test of the listing links them
  pub linked-iff : (i j : ℕ) → i < k → j < k → T (is_linked (paired ps) i j) ↔ L i j
  linked-iff i j h l = by (dec_lt i j) (dec_lt j i)
    where
      by : Dec (i < j) → Dec (j < i) → T (is_linked (paired ps) i j) ↔ L i j
      by (yes g) _ =
          rw (ne_eqb i j (omega arith), min-eq_left {n = i} {m = j} (omega arith), max-eq_right {n = i} {m = j} (omega arith))
          (λ t. ((H.listed i j).0 (paired-mem H g t)).2, λ a. mem-paired ((H.listed i j).1 (g, l, a)))
      by (no _) (yes g) =
          rw (ne_eqb i j (omega arith), min-eq_right {n = j} {m = i} (omega arith), max-eq_left {n = i} {m = j} (omega arith))
          (λ t. M.turns j i l h ((H.listed j i).0 (paired-mem H g t)).2, λ a. mem-paired ((H.listed j i).1 (g, h, M.turns i j h l a)))
      by (no n) (no m) = let e : j ≡ i = omega arith in rw (eq-eqb i j (omega arith)) (λ t. absurd t, λ a. M.differ i h (subst (L i) e a))

  -- so the neighbour count is a sum over the positions
  pub neighbours-sum : (i : ℕ) → i < k → neighbours ps i ≡ upto (λ j. bit (is_linked (paired ps) i j)) k
  neighbours-sum i h = neighbours-paired H i h ∙ count-positions (is_linked (paired ps) i) k

  pub twice : 2 * length ps ≡ upto (neighbours ps) k
  twice = sym (counts-twice H) ∙ map-sum (neighbours ps) k

-- relations before and after
pub record Carried (k : ℕ) (order : List ℕ) (L L' : ℕ → ℕ → Type 0) : Type 0 where
  pub placed : Order k order
  pub either_way : Mutual k L
  pub agree : (i j : ℕ) → i < k → j < k → L' i j ↔ L (came order i) (came order j)

module _ {k : ℕ} {order : List ℕ} {L L' : ℕ → ℕ → Type 0} (C : Carried k order L L') where
  inside : (i : ℕ) → i < k → came order i < k
  inside = came-inside C.placed

  pub mutual-after : Mutual k L'
  mutual-after = record {
    turns = λ i j h l a. (C.agree j i l h).1 (C.either_way.turns (came order i) (came order j) (inside i h) (inside j l) ((C.agree i j h l).0 a));
    differ = λ i h a. C.either_way.differ (came order i) (inside i h) ((C.agree i i h h).0 a);
  }

  module _ {ps qs : List Pair} (P : Listing k L ps) (Q : Listing k L' qs) where
    -- a listed pair after it exactly when one before
    pub joined-moved : (i j : ℕ) → i < k → j < k → Joined qs i j ↔ Joined ps (came order i) (came order j)
    joined-moved i j h l =
        let a = joined-iff mutual-after Q i j h l in
        let b = joined-iff C.either_way P (came order i) (came order j) (inside i h) (inside j l) in
        let c = C.agree i j h l in
        (λ m. b.1 (c.0 (a.0 m)), λ m. a.1 (c.1 (b.0 m)))

    linked-moved : (i j : ℕ) → i < k → j < k → bit (is_linked (paired qs) i j) ≡ bit (is_linked (paired ps) (came order i) (came order j))
    linked-moved i j h l =
        let a = linked-iff mutual-after Q i j h l in
        let b = linked-iff C.either_way P (came order i) (came order j) (inside i h) (inside j l) in
        let c = C.agree i j h l in
        bit-iff (is_linked (paired qs) i j) (is_linked (paired ps) (came order i) (came order j)) (λ m. b.1 (c.0 (a.0 m)), λ m. a.1 (c.1 (b.0 m)))

    -- the counts go with their positions
    pub neighbours-moved : (i : ℕ) → i < k → neighbours qs i ≡ neighbours ps (came order i)
    neighbours-moved i h =
        neighbours-sum mutual-after Q i h
        ∙ upto-same (λ j. bit (is_linked (paired qs) i j)) (λ j. bit (is_linked (paired ps) (came order i) (came order j))) k (λ j l. linked-moved i j h l)
        ∙ sum-came C.placed (λ j. bit (is_linked (paired ps) (came order i) j))
        ∙ sym (neighbours-sum C.either_way P (came order i) (inside i h))

    -- as many pairs
    pub pairs-moved : length qs ≡ length ps
    pairs-moved = omega (arith, twice mutual-after Q, twice C.either_way P, upto-same (neighbours qs) (λ i. neighbours ps (came order i)) k neighbours-moved, sum-came C.placed (neighbours ps))
