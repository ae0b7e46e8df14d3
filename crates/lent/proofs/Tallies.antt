-- Counting how often each number occurs: one number more is counted, and no place grows by more than there are numbers; counting from zero on.
-- Assumes nothing.
use mathlib.Core.Path.{◌≡◌, refl, ap}
use mathlib.Core.Bool.{Bool, true, false}
use mathlib.Core.List.{List, [], ◌∷◌, ◌++◌}
use Prim.Native.Nat.{ℕ, zero, suc, ◌+◌, ◌≤◌, ◌<◌}
use native.Mathlib.Numerals.{add-one}
use native.Mathlib.Omega.{arith}
use lib.Dec.{eqb}
use lib.ListN.{length, take, get_or, replicate, length-set, length-replicate}
use lib.Seq.{take-suc, length-take-le}
use Rattle.meaning.specs.Lists.{count, bit, more}
use Rattle.meaning.proofs.Sums.{count-append}
use Rattle.meaning.proofs.Counts.{more-at}
use Rattle.lent.specs.Tallies.{TallyRoom, Tallied}

-- no more members pass a test than there are
bit_le : (b : Bool) → bit b ≤ 1
bit_le true = omega arith
bit_le false = omega arith

pub count-le : (test : ℕ → Bool) (xs : List ℕ) → count test xs ≤ length xs
count-le test [] = omega arith
count-le test (x ∷ xs) = omega (arith, bit_le (test x), count-le test xs)

module _ {numbers tallies tallies' : List ℕ} {n : ℕ} (room : TallyRoom tallies numbers n) (i : ℕ) (h : i < n) (t : Tallied (take i numbers) tallies tallies') where
  -- a turn's number is a place, and what stands there can grow by one
  pub turn-place : get_or numbers i 0 < length tallies'
  turn-place = omega (arith, room.places i h, t.long)

  pub turn-grows : (x : ℕ) → get_or tallies' x 0 + 1 < 65536
  turn-grows x = omega (arith, t.each x, count-le (λ y. eqb y x) (take i numbers), length-take-le i numbers (omega (arith, room.lent)), room.grow x)

  -- it is counted
  pub turn-tallied : Tallied (take (i + 1) numbers) tallies (more tallies' (get_or numbers i 0))
  turn-tallied = record {
    long = simp length-set t.long;
    each = λ x.
        let v = get_or numbers i 0 in
        let inside : i < length numbers = omega (arith, room.lent) in
        let more-taken : take (i + 1) numbers ≡ take i numbers ++ (v ∷ []) = rw (add-one, take-suc numbers i 0 inside) in
        omega (arith, more-at tallies' v x turn-place, t.each x, ap (count (λ y. eqb y x)) more-taken, count-append (λ y. eqb y x) (take i numbers) (v ∷ []));
  }

-- ---- counted from zero on, in k places
pub zeros-at : (k x : ℕ) → ◌≡◌ {A = ℕ} (get_or (replicate k 0) x 0) 0
zeros-at zero x = refl
zeros-at (suc k) zero = refl
zeros-at (suc k) (suc x) = zeros-at k x

pub zeros-room : (k : ℕ) {numbers : List ℕ} {n : ℕ} → n ≤ length numbers → n < 65536 → ((i : ℕ) → i < n → get_or numbers i 0 < k) → TallyRoom (replicate k 0) numbers n
zeros-room k long few below = record {
  lent = long;
  places = λ i h. omega (arith, below i h, length-replicate {A = ℕ} k 0);
  grow = λ x. omega (arith, zeros-at k x, few);
}

pub zeros-tallied : (k : ℕ) {xs tallies : List ℕ} → Tallied xs (replicate k 0) tallies → (x : ℕ) → get_or tallies x 0 ≡ count (λ y. eqb y x) xs
zeros-tallied k t x = omega (arith, t.each x, zeros-at k x)
