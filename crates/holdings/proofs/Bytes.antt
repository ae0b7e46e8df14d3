-- Lists of bytes: cutting at a place, zeros, and pairs of bytes.
-- Assumes nothing.
use mathlib.Core.Path.{◌≡◌, refl, sym, ap, ap₂, ◌∙◌}
use mathlib.Core.List.{List, [], ◌∷◌, ◌++◌}
use Prim.Native.Nat.{ℕ, zero, suc, ◌+◌, ◌*◌, ◌≤◌, ◌<◌}
use native.Mathlib.Omega.{arith}
use lib.ListN.{length, take, drop, get_or, replicate, length-replicate, get_or-replicate}
use lib.Seq.{take_at, drop_at, get_or-drop, get_or-append-add, ext_get_or}
use Rattle.meaning.specs.Listing.{Pair, flat}

-- equal lists cut at the same place
pub cut-same : (xs ys us vs : List ℕ) → length xs ≡ length us → xs ++ ys ≡ us ++ vs → (xs ≡ us) × (ys ≡ vs)
cut-same xs ys us vs n e = (
  sym (take_at xs ys (length us) n) ∙ ap (take (length us)) e ∙ take_at us vs (length us) refl,
  sym (drop_at xs ys (length us) n) ∙ ap (drop (length us)) e ∙ drop_at us vs (length us) refl,
)

-- what stands behind the first n
pub at-behind : (xs ys : List ℕ) (n j : ℕ) → length xs ≡ n → get_or (xs ++ ys) (n + j) 0 ≡ get_or ys j 0
at-behind xs ys n j e = ap (λ (k : ℕ). get_or (xs ++ ys) (k + j) 0) (sym e) ∙ get_or-append-add xs ys j 0

pub all-zero : (n : ℕ) (xs : List ℕ) → length xs ≡ n → ((k : ℕ) → k < n → get_or xs k 0 ≡ 0) → xs ≡ replicate n 0
all-zero n xs e f = ext_get_or 0 xs (replicate n 0) (e ∙ sym (length-replicate n 0)) (λ k h. let l : k < n = omega arith in f k l ∙ sym (get_or-replicate n k 0 0 l))

-- the n pairs that bytes begin with
unfoldable pub pairs_in : List ℕ → ℕ → List Pair
pairs_in m zero = []
pairs_in m (suc n) = (get_or m 0 0, get_or m 1 0) ∷ pairs_in (drop 2 m) n

pub pairs-length : (m : List ℕ) (n : ℕ) → length (pairs_in m n) ≡ n
unfolding pairs_in
pairs-length m zero = refl
pairs-length m (suc n) = ap suc (pairs-length (drop 2 m) n)

pub pairs-at : (m : List ℕ) (n k : ℕ) (d : Pair) → k < n → get_or (pairs_in m n) k d ≡ (get_or m (2 * k) 0, get_or m (2 * k + 1) 0)
unfolding pairs_in
pairs-at m zero k d h = absurd (omega arith)
pairs-at m (suc n) zero d h = refl
pairs-at m (suc n) (suc k) d h =
    let a : 2 + 2 * k ≡ 2 * suc k = omega arith in
    let b : 2 + (2 * k + 1) ≡ 2 * suc k + 1 = omega arith in
    pairs-at (drop 2 m) n k d (omega arith) ∙ ap₂ (λ (x y : ℕ). (x, y)) (get_or-drop 2 m (2 * k) 0 ∙ ap (λ (i : ℕ). get_or m i 0) a) (get_or-drop 2 m (2 * k + 1) 0 ∙ ap (λ (i : ℕ). get_or m i 0) b)

-- as bytes they are what they were read from
pub flat-pairs : (n : ℕ) (m : List ℕ) → 2 * n ≤ length m → flat (pairs_in m n) ≡ take (2 * n) m
unfolding pairs_in flat
flat-pairs zero m h = refl
flat-pairs (suc n) [] h = absurd (omega arith)
flat-pairs (suc n) (a ∷ []) h = absurd (omega arith)
flat-pairs (suc n) (a ∷ b ∷ m) h =
    let e : 2 * suc n ≡ suc (suc (2 * n)) = omega arith in
    rw e (ap (λ (l : List ℕ). a ∷ b ∷ l) (flat-pairs n m (omega arith)))

-- pairs written as bytes are read back, whatever follows
pub pairs-flat : (ps : List Pair) (m : List ℕ) → pairs_in (flat ps ++ m) (length ps) ≡ ps
unfolding pairs_in flat
pairs-flat [] m = refl
pairs-flat (p ∷ ps) m = ap (◌∷◌ p) (pairs-flat ps m)
