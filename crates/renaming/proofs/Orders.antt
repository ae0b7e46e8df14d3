-- Orders of positions: every position is taken once, and sums over the positions stay.
-- Assumes nothing.
use mathlib.Core.Path.{◌≡◌, refl, sym, ap, ◌∙◌}
use mathlib.Core.Bool.{Bool, true, false}
use mathlib.Core.List.{List, [], ◌∷◌, map, Memᴰ}
use Prim.Native.Nat.{ℕ, zero, suc, ◌<◌}
use native.Mathlib.Omega.{arith}
use lib.ListN.{length, get_or, length-map}
use lib.Seq.{ext_get_or}
use Rattle.meaning.specs.Lists.{member, NoDup, positions, sum, upto}
use Rattle.meaning.proofs.Logic.{clash}
use Rattle.meaning.proofs.Lists.{number, numbered, get_d_map, member-in, in-member}
use Rattle.meaning.proofs.Positions.{positions-mem, mem-positions, positions-length}
use Rattle.meaning.proofs.Sums.{map-length, map_at, map-sum, total-le, no_longer}
use Rattle.renaming.specs.Reordering.{Order, came}

-- nothing stands twice in a list without repeats
pub nodup-at : (xs : List ℕ) → NoDup xs → (i j : ℕ) → i < length xs → j < length xs → get_or xs i 0 ≡ get_or xs j 0 → i ≡ j
nodup-at [] d i j h l e = absurd (omega arith)
nodup-at (x ∷ xs) d zero zero h l e = refl
nodup-at (x ∷ xs) d zero (suc j) h l e = absurd (d.0 (mathlib.Core.List.Memᴰ.cast e (numbered xs 0 j (omega arith))))
nodup-at (x ∷ xs) d (suc i) zero h l e = absurd (d.0 (mathlib.Core.List.Memᴰ.cast (sym e) (numbered xs 0 i (omega arith))))
nodup-at (x ∷ xs) d (suc i) (suc j) h l e = ap suc (nodup-at xs d.1 i j (omega arith) (omega arith) e)

-- a list where no place repeats another has no repeats
pub at-nodup : (xs : List ℕ) → ((i j : ℕ) → i < length xs → j < length xs → get_or xs i 0 ≡ get_or xs j 0 → i ≡ j) → NoDup xs
at-nodup [] f = tt
at-nodup (x ∷ xs) f = (
  λ m. let (i, h, e) = number 0 m in let z : 0 ≡ suc i = f 0 (suc i) (omega arith) (omega arith) (sym e) in absurd (omega arith),
  at-nodup xs (λ i j h l e. let z : suc i ≡ suc j = f (suc i) (suc j) (omega arith) (omega arith) e in omega arith),
)

-- a position stands at its own place
pub position_at : (k i : ℕ) → i < k → get_or (positions k) i 0 ≡ i
position_at k i h = let l : i < length (positions k) = omega (arith, positions-length k) in sym (get_d_map (λ x. x) (positions k) i 0 0 l) ∙ map_at (λ x. x) k i h

pub positions-once : (k : ℕ) → NoDup (positions k)
positions-once k = at-nodup (positions k) (λ i j h l e. omega (arith, positions-length k, position_at k i (omega (arith, positions-length k)), position_at k j (omega (arith, positions-length k)), e))

module _ {k : ℕ} {order : List ℕ} (O : Order k order) where
  pub came-inside : (i : ℕ) → i < k → came order i < k
  came-inside i h = O.inside (came order i) (numbered order 0 i (omega (arith, O.all)))

  pub came-once : (i j : ℕ) → i < k → j < k → came order i ≡ came order j → i ≡ j
  came-once i j h l e = nodup-at order O.once i j (omega (arith, O.all)) (omega (arith, O.all)) e

  -- every position is in it: else there would be one more than there are
  pub taken : (y : ℕ) → y < k → Memᴰ y order
  taken y h = by (member y order) refl
    where
      inside : (l : ℕ) → Memᴰ l (y ∷ order) → Memᴰ l (positions k)
      inside l (mathlib.Core.List.Memᴰ.head e) = mem-positions k l (omega arith)
      inside l (mathlib.Core.List.Memᴰ.tail m) = mem-positions k l (O.inside l m)

      by : (b : Bool) → member y order ≡ b → Memᴰ y order
      by true e = member-in y order e
      by false e =
          let absent : Memᴰ y order → ⊥ = λ m. let z : true ≡ false = sym (in-member m) ∙ e in clash cc in
          absurd (omega (arith, no_longer (y ∷ order) (positions k) (absent, O.once) inside, positions-length k, O.all))

  -- so each position has gone to one
  pub went : (y : ℕ) → y < k → (i : ℕ) × (i < k) × (came order i ≡ y)
  went y h = let (i, l, e) = number 0 (taken y h) in (i, omega (arith, O.all), e)

  -- a sum over the positions is the sum over those that they came from
  order-listed : (g : ℕ → ℕ) → map (λ i. g (came order i)) (positions k) ≡ map g order
  order-listed g =
      ext_get_or 0 (map (λ i. g (came order i)) (positions k)) (map g order) (map-length (λ i. g (came order i)) k ∙ sym (length-map order g ∙ O.all)) (λ i h.
      let l : i < k = omega (arith, map-length (λ i. g (came order i)) k) in
      map_at (λ i. g (came order i)) k i l ∙ sym (get_d_map g order i 0 0 (omega (arith, O.all))))

  pub sum-came : (g : ℕ → ℕ) → upto (λ i. g (came order i)) k ≡ upto g k
  sum-came g =
      omega (
        arith,
        map-sum (λ i. g (came order i)) k,
        ap sum (order-listed g),
        map-sum g k,
        total-le g order (positions k) O.once (λ l m. mem-positions k l (O.inside l m)),
        total-le g (positions k) order (positions-once k) (λ l m. taken l (positions-mem k m)),
      )

-- the order in which nothing moves
pub in_place : (k : ℕ) → Order k (positions k)
in_place k = record { all = positions-length k; inside = λ i m. positions-mem k m; once = positions-once k }
