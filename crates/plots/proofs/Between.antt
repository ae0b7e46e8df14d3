-- A fork's row lies between those of its two children: above the first's and below the second's.
-- Assumes nothing.
use mathlib.Core.Path.{◌≡◌, sym}
use mathlib.Core.Bool.{Bool, true, false, not, true≢false}
use Prim.Native.Nat.{ℕ, ◌+◌, ◌*◌, ◌^◌, ◌≤◌, ◌<◌}
use native.Mathlib.Nat.{add-mul, mul-le-mul_right, mul-lt-mul_of_pos_right, mul-pos}
use native.Mathlib.Omega.{arith}
use lib.Dec.{T, ltb, nltb→le}
use lib.Pow.{pow_pos}
use lib.Ieee.{Float, nan, inf, fin, up, down, lt}
use lib.Ieee.Exact.{HasValue}
use lib.Ieee.Fits.{down_pos}
use lib.Ieee.Order.{transfer}
use Rattle.meaning.specs.Limits.{max_label}
use Rattle.meaning.specs.Tree.{Tree, leaf, fork, leaves}
use Rattle.plots.specs.Plot.{row, scale, exact, height}
use Rattle.plots.proofs.Rows.{height-lt, exact-le, halves, Near, near}

-- ---- the order of two numbers, by the fractions that they equal
strict : (x y de dd a b c c' : ℕ) → 0 < de → 0 < dd → x * c ≡ a * de → y * c' ≡ b * dd → a * c' < b * c → T (ltb (x * dd) (y * de))
strict x y de dd a b c c' E D p q h = go (ltb (x * dd) (y * de)) (nltb→le (x * dd) (y * de))
  where
    go : (d : Bool) → (T (not d) → y * de ≤ x * dd) → T d
    go true f = tt
    go false f = absurd (omega (arith, h, transfer b a c' c y x dd de D E (sym q) (sym p) (f tt)))

pub lt-of-values : (x y : Float) (a c b c' : ℕ) → HasValue x false a c → HasValue y false b c' → a * c' < b * c → T (lt x y)
unfolding lt
lt-of-values nan y a c b c' p q h = absurd p
lt-of-values (inf s) y a c b c' p q h = absurd p
lt-of-values (fin true m e) y a c b c' p q h = absurd (true≢false p.0)
lt-of-values (fin false m e) nan a c b c' p q h = absurd q
lt-of-values (fin false m e) (inf t) a c b c' p q h = absurd q
lt-of-values (fin false m e) (fin true n d) a c b c' p q h = absurd (true≢false q.0)
lt-of-values (fin false m e) (fin false n d) a c b c' p q h = strict (m * up e) (n * up d) (down e) (down d) a b c c' (down_pos e) (down_pos d) p.1 q.1 h

-- ---- exact rows that are half of 1 apart are told apart by the rows
apart : {v : ℕ} {x y : Float} {j k e f : ℕ} → 0 < v → j ≤ 63 → k ≤ 63 → e + 2 ^ 62 ≤ f → Near v x j e → Near v y k f → T (lt x y)
apart {v} {x} {y} {j} {k} {e} {f} some h l d p q =
    let a : (e + 2 ^ 62) * v ≤ f * v = mul-le-mul_right v d in
    let b : j * (2 ^ 15 * v) ≤ 63 * (2 ^ 15 * v) = mul-le-mul_right (2 ^ 15 * v) h in
    let c : k * (2 ^ 15 * v) ≤ 63 * (2 ^ 15 * v) = mul-le-mul_right (2 ^ 15 * v) l in
    let u : p.units < q.units = omega (arith, a, b, c, add-mul e (2 ^ 62) v, p.above, q.below, some) in
    lt-of-values x y p.units (2 ^ 63 * v) q.units (2 ^ 63 * v) p.value q.value (mul-lt-mul_of_pos_right u (mul-pos (pow_pos 63) some))

-- ---- exact rows: not below that of the first leaf
pub exact-ge : (t : Tree) (i : ℕ) → i * scale ≤ exact i t
exact-ge (leaf l) i = omega arith
exact-ge (fork a b) i = omega (arith, exact-ge a i, exact-ge b (i + leaves a))

-- so the first child's is 1 or more below the second's
pub children-apart : (a b : Tree) (i : ℕ) → exact i a + scale ≤ exact (i + leaves a) b
children-apart a b i = omega (arith, exact-le a i, exact-ge b (i + leaves a))

-- ---- a fork and its children
module _ (a b : Tree) (i : ℕ) (few : i + leaves (fork a b) ≤ max_label) where
  levels : height (fork a b) ≤ 63
  levels = omega (arith, height-lt (fork a b))

  pub above-first : T (lt (row i a) (row i (fork a b)))
  above-first =
      apart (pow_pos 1011) (omega (arith, levels)) levels (omega (arith, halves a b i levels, children-apart a b i)) (near a i (omega arith)) (near (fork a b) i few)

  pub below-second : T (lt (row i (fork a b)) (row (i + leaves a) b))
  below-second =
      apart (pow_pos 1011) levels (omega (arith, levels)) (omega (arith, halves a b i levels, children-apart a b i)) (near (fork a b) i few) (near b (i + leaves a) (omega arith))
