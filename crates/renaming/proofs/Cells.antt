-- The cells that a listing call has written: a pair is among them exactly when it is listed, and the counts are those of the positions.
-- Assumes nothing.
use mathlib.Core.Path.{◌≡◌, refl, sym, ap, ◌∙◌}
use mathlib.Core.Logic.{◌↔◌, ◌⊎◌, inl, inr}
use mathlib.Core.List.Memᴰ
use mathlib.Core.List.{List, [], ◌∷◌, Memᴰ}
use Prim.Native.Nat.{ℕ, zero, suc, ◌+◌, ◌*◌, ◌<◌}
use native.Mathlib.Omega.{arith}
use lib.ListN.{length, get_or, drop, get_or-append}
use Rattle.meaning.specs.Listing.{Pair, neighbours, counts, flat}
use Rattle.meaning.specs.Islands.{Joined}
use Rattle.meaning.specs.Answer.{GraphMemory, written}
use Rattle.meaning.proofs.Lists.{number, numbered}
use Rattle.meaning.proofs.Counts.{flat-length, counts-length, counts-at}
use Rattle.renaming.specs.Outcomes.{WrittenPair, ListedPair}

abbrev none : Pair
none = (0, 0)

-- the numbers of pair m
flat-first : (ps : List Pair) (m : ℕ) → m < length ps → get_or (flat ps) (2 * m) 0 ≡ (get_or ps m none).0
unfolding flat
flat-first [] m h = absurd (omega arith)
flat-first (p ∷ ps) zero h = refl
flat-first (p ∷ ps) (suc m) h = let e : 2 * suc m ≡ suc (suc (2 * m)) = omega arith in rw e (flat-first ps m (omega arith))

flat-second : (ps : List Pair) (m : ℕ) → m < length ps → get_or (flat ps) (2 * m + 1) 0 ≡ (get_or ps m none).1
unfolding flat
flat-second [] m h = absurd (omega arith)
flat-second (p ∷ ps) zero h = refl
flat-second (p ∷ ps) (suc m) h = let e : 2 * suc m + 1 ≡ suc (suc (2 * m + 1)) = omega arith in rw e (flat-second ps m (omega arith))

-- what is written stands there
pub written_at : (xs slice : List ℕ) (i : ℕ) → i < length xs → get_or (written xs slice) i 0 ≡ get_or xs i 0
written_at xs slice i h = get_or-append xs (drop (length xs) slice) 0 i h

module _ (ps : List Pair) (slice : List ℕ) where
  written-first : (m : ℕ) → m < length ps → get_or (written (flat ps) slice) (2 * m) 0 ≡ (get_or ps m none).0
  written-first m h = written_at (flat ps) slice (2 * m) (omega (arith, flat-length ps)) ∙ flat-first ps m h

  written-second : (m : ℕ) → m < length ps → get_or (written (flat ps) slice) (2 * m + 1) 0 ≡ (get_or ps m none).1
  written-second m h = written_at (flat ps) slice (2 * m + 1) (omega (arith, flat-length ps)) ∙ flat-second ps m h

  -- the pairs that are written are the listed ones
  pub written-iff : (i j : ℕ) → WrittenPair (written (flat ps) slice) (length ps) i j ↔ Memᴰ (i, j) ps
  written-iff i j = (to, from)
    where
      to : WrittenPair (written (flat ps) slice) (length ps) i j → Memᴰ (i, j) ps
      to w =
          let a : (get_or ps w.place none).0 ≡ i = sym (written-first w.place w.inside) ∙ w.first in
          let b : (get_or ps w.place none).1 ≡ j = sym (written-second w.place w.inside) ∙ w.second in
          let e : ◌≡◌ {A = Pair} (i, j) (get_or ps w.place none) = λ x. (sym a x, sym b x) in
          Memᴰ.cast e (numbered ps none w.place w.inside)

      from : Memᴰ (i, j) ps → WrittenPair (written (flat ps) slice) (length ps) i j
      from m =
          let (p, h, e) = number none m in
          record {
            place = p;
            inside = h;
            first = written-first p h ∙ ap (λ (q : Pair). q.0) e;
            second = written-second p h ∙ ap (λ (q : Pair). q.1) e;
          }

-- in either order
pub listed-iff : (ps : List Pair) (n : ℕ) (graph : GraphMemory) (slice : List ℕ) → graph.pairs ≡ written (flat ps) slice → (i j : ℕ)
    → ListedPair (record { trees = n; pairs = length ps }) graph i j ↔ Joined ps i j
listed-iff ps n graph slice e i j =
    let a = written-iff ps slice i j in
    let b = written-iff ps slice j i in
    rw e (both a b)
  where
    both : {A B C D : Type 0} → A ↔ B → C ↔ D → (A ⊎ C) ↔ (B ⊎ D)
    both {A} {B} {C} {D} a b = (to, from)
      where
        to : A ⊎ C → B ⊎ D
        to (inl x) = inl (a.0 x)
        to (inr x) = inr (b.0 x)

        from : B ⊎ D → A ⊎ C
        from (inl x) = inl (a.1 x)
        from (inr x) = inr (b.1 x)

-- the counts that are written are the neighbours of the positions
pub count-iff : (k : ℕ) (ps : List Pair) (slice : List ℕ) (i : ℕ) → i < k → get_or (written (counts k ps) slice) i 0 ≡ neighbours ps i
count-iff k ps slice i h = written_at (counts k ps) slice i (omega (arith, counts-length k ps)) ∙ counts-at k ps i h
