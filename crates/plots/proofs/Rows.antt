-- Each row of a tree of at most 64 leaves is within 2 ^ -42 of the exact one: at each fork the error grows by 2 ^ -48 at most, and at most 63 forks are on a way down.
-- Assumes nothing.
use mathlib.Core.Path.{◌≡◌, refl, sym, ap, ap₂, ◌∙◌, subst}
use mathlib.Core.List.{List, ◌++◌}
use mathlib.Core.Bool.{false}
use Prim.Native.Nat.{ℕ, zero, suc, ◌+◌, ◌*◌, ◌/◌, ◌^◌, ◌≤◌, ◌<◌, max}
use native.Mathlib.Nat.{le_refl, le_trans, le_of_eq, le-add_right, mul_assoc, mul_comm, mul_right_comm, add-mul, mul-one, mul-pos, mul-le-mul_right, pow-suc}
use native.Mathlib.Omega.{arith}
use lib.Dec.{lit≤}
use lib.Pow.{pow-add, pow_pos}
use lib.Ieee.{Float, nan, inf, fin, up, down, binary64, round, mul, of_int}
use lib.Ieee.Exact.{HasValue}
use lib.Ieee.Back.{round_whole}
use Rattle.meaning.specs.Limits.{max_label}
use Rattle.meaning.specs.Tree.{Tree, leaf, fork, leaves}
use Rattle.meaning.proofs.Labels.{some-leaves}
use Rattle.plots.specs.Plot.{whole, half, halfway, row, exact, nodes_in_order, rows, exacts, height, Off, tolerance, EachWithin, none, more}
use Rattle.plots.proofs.Rounding.{Close}
use Rattle.plots.proofs.Step.{Half, sum-at, halving}

-- ---- levels
pub height-lt : (t : Tree) → height t < leaves t
height-lt (leaf l) = omega arith
height-lt (fork a b) = omega (arith, height-lt a, height-lt b)

-- ---- an exact row is a whole number over 2 ^ 63, and no division by 2 cuts anything
twice_half : (n z : ℕ) → n ≡ z * 2 → n / 2 ≡ z
twice_half n z e = omega arith

both-multiples : (x y q r d : ℕ) → x ≡ q * 2 ^ suc d → y ≡ r * 2 ^ suc d → x + y ≡ (q + r) * 2 ^ d * 2
both-multiples x y q r d e g =
    ap₂ ◌+◌ e g ∙ sym (add-mul q r (2 ^ suc d)) ∙ ap (λ (z : ℕ). (q + r) * z) (pow-suc 2 d) ∙ sym (mul_assoc (q + r) (2 ^ d) 2)

multiple : (t : Tree) (i k d : ℕ) → k + d ≡ 63 → height t ≤ k → (q : ℕ) × (exact i t ≡ q * 2 ^ d)
multiple (leaf l) i k d e h = (i * 2 ^ k, ap (λ (z : ℕ). i * 2 ^ z) (sym e) ∙ ap (λ (z : ℕ). i * z) (pow-add 2 k d) ∙ sym (mul_assoc i (2 ^ k) (2 ^ d)))
multiple (fork a b) i zero d e h = absurd (omega arith)
multiple (fork a b) i (suc k) d e h =
    let x = multiple a i k (suc d) (omega arith) (omega arith) in
    let y = multiple b (i + leaves a) k (suc d) (omega arith) (omega arith) in
    (x.0 + y.0, twice_half (exact i a + exact (i + leaves a) b) ((x.0 + y.0) * 2 ^ d) (both-multiples (exact i a) (exact (i + leaves a) b) x.0 y.0 d x.1 y.1))

pub halves : (a b : Tree) (i : ℕ) → height (fork a b) ≤ 63 → exact i (fork a b) * 2 ≡ exact i a + exact (i + leaves a) b
halves a b i h =
    let x = multiple a i 62 1 refl (omega arith) in
    let y = multiple b (i + leaves a) 62 1 refl (omega arith) in
    omega (arith, x.1, y.1)

-- an exact row is not above that of the last leaf
pub exact-le : (t : Tree) (i : ℕ) → exact i t + 2 ^ 63 ≤ (i + leaves t) * 2 ^ 63
exact-le (leaf l) i = omega arith
exact-le (fork a b) i = omega (arith, exact-le a i, exact-le b (i + leaves a), some-leaves b)

-- ---- rows in units of which v are 2 ^ -63: 2 ^ 15 * v of them are 2 ^ -48, and 2 ^ 63 * v are 1
-- x is a number, and at most k times 2 ^ -48 away from e / 2 ^ 63
pub record Near (v : ℕ) (x : Float) (k e : ℕ) : Type 0 where
  pub units : ℕ
  pub value : HasValue x false units (2 ^ 63 * v)
  pub above : units ≤ e * v + k * (2 ^ 15 * v)
  pub below : e * v ≤ units + k * (2 ^ 15 * v)

more-levels : {v : ℕ} {x : Float} {j k e : ℕ} → j ≤ k → Near v x j e → Near v x k e
more-levels {v} {j} {k} l n =
    let d : ℕ = 2 ^ 15 * v in
    let h : j * d ≤ k * d = mul-le-mul_right d l in
    record { units = n.units; value = n.value; above = le_trans n.above (omega (arith, h)); below = le_trans n.below (omega (arith, h)) }

-- a leaf
scaled : (x : Float) (a k : ℕ) → HasValue x false a 1 → HasValue x false (a * k) k
scaled nan a k h = absurd h
scaled (inf s) a k h = absurd h
scaled (fin s m e) a k h = (h.0, ap (λ (z : ℕ). z * k) (sym (mul-one (m * up e)) ∙ h.1) ∙ mul_right_comm a (down e) k)

near-leaf : (v i : ℕ) → i ≤ 2 ^ 53 → Near v (whole i) 0 (i * 2 ^ 63)
unfolding of_int
near-leaf v i h =
    let e : i * (2 ^ 63 * v) ≡ i * 2 ^ 63 * v = sym (mul_assoc i (2 ^ 63) v) in
    record { units = i * (2 ^ 63 * v); value = scaled (round binary64 false i 1) i (2 ^ 63 * v) (round_whole binary64 false i h); above = omega (arith, e); below = omega (arith, e) }

-- a fork: g and h are the children's rows, r is its own
step-above : (g h r x y z kd d : ℕ) → z * 2 ≡ x + y → g ≤ x + kd → h ≤ y + kd → Close (g + h) (r * 2) (d * 4) → r ≤ z + (d + kd)
step-above g h r x y z kd d e p q c = omega (arith, c.above)

step-below : (g h r x y z kd d : ℕ) → z * 2 ≡ x + y → x ≤ g + kd → y ≤ h + kd → Close (g + h) (r * 2) (d * 4) → z ≤ r + (d + kd)
step-below g h r x y z kd d e p q c = omega (arith, c.below)

one_more : (k d : ℕ) → suc k * d ≡ d + k * d
one_more k d = omega (arith, add-mul 1 k d)

times : (v x y z : ℕ) → z * 2 ≡ x + y → z * v * 2 ≡ x * v + y * v
times v x y z e = mul_right_comm z v 2 ∙ ap (λ (n : ℕ). n * v) e ∙ add-mul x y v

-- the children's rows are below 64
below_64 : {v : ℕ} {x : Float} {k e : ℕ} → 0 < v → k ≤ 63 → e ≤ 63 * 2 ^ 63 → (n : Near v x k e) → n.units < 64 * (2 ^ 63 * v)
below_64 {v} {k} {e} some h l n =
    let p : e * v ≤ 63 * 2 ^ 63 * v = mul-le-mul_right v l in
    let q : k * (2 ^ 15 * v) ≤ 63 * (2 ^ 15 * v) = mul-le-mul_right (2 ^ 15 * v) h in
    omega (arith, n.above, p, q, some)

sum_below : (g h n : ℕ) → g < 64 * n → h < 64 * n → g + h < 128 * n
sum_below g h n p q = omega arith

-- the unit is binary64's smallest value, 2 ^ -1074
abbrev pub unit : ℕ
unit = 2 ^ 1011

near-fork : {x y : Float} {k e f z : ℕ} → k ≤ 63 → e ≤ 63 * 2 ^ 63 → f ≤ 63 * 2 ^ 63 → z * 2 ≡ e + f → Near unit x k e → Near unit y k f → Near unit (halfway x y) (suc k) z
near-fork {x} {y} {k} {e} {f} {z} h l m w p q =
    let g = p.units in
    let g' = q.units in
    let few : g + g' < 128 * (2 ^ 63 * unit) = sum_below g g' (2 ^ 63 * unit) (below_64 (pow_pos 1011) h l p) (below_64 (pow_pos 1011) h m q) in
    let r : Half binary64 (mul binary64 (round binary64 false (g + g') (2 ^ 1074)) half) (g + g') (2 ^ 1028) = halving binary64 (g + g') 1027 few (lit≤ tt) in
    let c : Close (g + g') (r.units * 2) (2 ^ 15 * unit * 4) = r.close in
    let s : z * unit * 2 ≡ e * unit + f * unit = times unit e f z w in
    let o : z * unit + suc k * (2 ^ 15 * unit) ≡ z * unit + (2 ^ 15 * unit + k * (2 ^ 15 * unit)) = ap (λ (n : ℕ). z * unit + n) (one_more k (2 ^ 15 * unit)) in
    let o' : r.units + suc k * (2 ^ 15 * unit) ≡ r.units + (2 ^ 15 * unit + k * (2 ^ 15 * unit)) = ap (λ (n : ℕ). r.units + n) (one_more k (2 ^ 15 * unit)) in
    record {
      units = r.units;
      value = subst (λ (n : Float). HasValue (mul binary64 n half) false r.units (2 ^ 63 * unit)) (sym (sum-at binary64 x y g g' (2 ^ 63 * unit) (pow_pos 1074) p.value q.value)) r.value;
      above = le_trans (step-above g g' r.units (e * unit) (f * unit) (z * unit) (k * (2 ^ 15 * unit)) (2 ^ 15 * unit) s p.above q.above c) (le_of_eq (sym o));
      below = le_trans (step-below g g' r.units (e * unit) (f * unit) (z * unit) (k * (2 ^ 15 * unit)) (2 ^ 15 * unit) s p.below q.below c) (le_of_eq (sym o'));
    }

-- ---- a tree of at most 64 leaves, with those before it
few-leaves : (n : ℕ) → n ≤ 64 → n * 2 ^ 63 ≤ 64 * 2 ^ 63
few-leaves n h = mul-le-mul_right (2 ^ 63) h

exact-63 : (t : Tree) (i : ℕ) → i + leaves t ≤ 64 → exact i t ≤ 63 * 2 ^ 63
exact-63 t i h = omega (arith, exact-le t i, few-leaves (i + leaves t) h)

pub near : (t : Tree) (i : ℕ) → i + leaves t ≤ 64 → Near unit (row i t) (height t) (exact i t)
near (leaf l) i h = near-leaf unit i (le_trans (le_trans (le-add_right i 1) h) (lit≤ tt))
near (fork a b) i h =
    let k = max (height a) (height b) in
    let first : i + leaves a ≤ 64 = omega arith in
    let second : i + leaves a + leaves b ≤ 64 = omega arith in
    let levels : height (fork a b) ≤ 63 = omega (arith, height-lt (fork a b)) in
    near-fork (omega arith) (exact-63 a i first) (exact-63 b (i + leaves a) second) (halves a b i levels)
    (more-levels (omega arith) (near a i first))
    (more-levels (omega arith) (near b (i + leaves a) second))

-- ---- as fractions
product : (e v c : ℕ) → e * (c * v) ≡ e * v * c
product e v c = simp (mul_assoc, mul_comm)

off-by : {v : ℕ} {x : Float} {k e far : ℕ} → 0 < v → k * 2 ^ 15 ≤ far → Near v x k e → Off far x e
off-by {v} {k} {e} {far} some h n =
    let q : k * (2 ^ 15 * v) ≡ k * 2 ^ 15 * v = sym (mul_assoc k (2 ^ 15) v) in
    let o : k * 2 ^ 15 * v ≤ far * v = mul-le-mul_right v h in
    let p : e * (2 ^ 63 * v) ≡ e * v * 2 ^ 63 = product e v (2 ^ 63) in
    let r : far * (2 ^ 63 * v) ≡ far * v * 2 ^ 63 = product far v (2 ^ 63) in
    let s : (e + far) * (2 ^ 63 * v) ≡ e * (2 ^ 63 * v) + far * (2 ^ 63 * v) = add-mul e far (2 ^ 63 * v) in
    record {
      num = n.units;
      den = 2 ^ 63 * v;
      some = mul-pos (pow_pos 63) some;
      value = n.value;
      not_above = omega (arith, n.above, q, o, p, r, s);
      not_below = omega (arith, n.below, q, o, p, r);
    }

-- at most 2 ^ -48 for each level
pub row-off : (t : Tree) (i : ℕ) → i + leaves t ≤ 64 → Off (height t * 2 ^ 15) (row i t) (exact i t)
row-off t i h = off-by (pow_pos 1011) (le_refl (height t * 2 ^ 15)) (near t i h)

-- 63 of these are within 2 ^ -42
pub row_within : (t : Tree) (i : ℕ) → i + leaves t ≤ 64 → Off tolerance (row i t) (exact i t)
row_within t i h = off-by (pow_pos 1011) (omega (arith, height-lt t)) (near t i h)

-- ---- each node's row
both-within : {xs ys : List Float} {es fs : List ℕ} → EachWithin xs es → EachWithin ys fs → EachWithin (xs ++ ys) (es ++ fs)
both-within none q = q
both-within (more w p) q = more w (both-within p q)

all-within : (t : Tree) (c i : ℕ) → i + leaves t ≤ max_label → EachWithin (nodes_in_order (λ c i s. row i s) c i t) (nodes_in_order (λ c i s. exact i s) c i t)
all-within (leaf l) c i h = more (row_within (leaf l) i h) none
all-within (fork a b) c i h = more (row_within (fork a b) i h) (both-within (all-within a (c + 1) i (omega arith)) (all-within b (c + 1) (i + leaves a) (omega arith)))

pub rows-within : (t : Tree) → leaves t ≤ max_label → EachWithin (rows t) (exacts t)
rows-within t h = all-within t 0 0 (omega arith)
