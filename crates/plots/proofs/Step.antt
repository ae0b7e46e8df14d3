-- One sum and one product with 0.5: the result is a number, and how far it is from half the sum.
-- Assumes nothing.
use mathlib.Core.Path.{◌≡◌, refl, sym, ap, ap₂, ◌∙◌, subst}
use mathlib.Core.Logic.{◌⊎◌, inl, inr}
use mathlib.Core.Bool.{true, false, true≢false}
use Prim.Native.Nat.{ℕ, zero, suc, ◌+◌, ◌-◌, ◌*◌, ◌^◌, ◌≤◌, ◌<◌}
use native.Mathlib.Nat.{le_trans, le_of_eq, lt_of_lt_of_le, lt_of_le_of_lt, eq-or-lt_of_le, add-zero, le-add_left, zero-lt-suc, mul_assoc, mul_comm, mul_right_comm, add-mul, mul-one, mul-pos, mul-le-mul_right, mul-lt-mul_of_pos_right, two-pow-succ, pow-suc}
use native.Mathlib.Omega.{arith}
use lib.IntN.{negsuc}
use lib.Pow.{pow-add, pow_pos, pow_mono, pow-lt}
use lib.Ieee.{Float, nan, inf, fin, Format, prec, emax, low, up, down, round, add, mul, of_bits}
use lib.Ieee.Fits.{two, down_pos}
use lib.Ieee.Exact.{HasValue, round_exact}
use lib.Ieee.Order.{drop, kept}
use lib.Ieee.Scale.{grid, overflow, round_same, round_val}
use Rattle.plots.specs.Plot.{half}
use Rattle.plots.proofs.Rounding.{Close, close-wider, drop_le, kept-le, units-close, half-close}

pub half_is : half ≡ fin false 1 (negsuc 0)
half_is = unfold of_bits in refl

-- ---- x and y are g / l and h / l: what the sum rounds, and what the product with 0.5 does
cross : (a b A B l g h : ℕ) → a * l ≡ g * A → b * l ≡ h * B → (a * B + b * A) * l ≡ (g + h) * (A * B)
cross a b A B l g h p q =
    let x : a * B * l ≡ g * (A * B) = mul_right_comm a B l ∙ ap (λ (z : ℕ). z * B) p ∙ mul_assoc g A B in
    let y : b * A * l ≡ h * (A * B) = mul_right_comm b A l ∙ ap (λ (z : ℕ). z * A) q ∙ mul_assoc h B A ∙ ap (λ (z : ℕ). h * z) (mul_comm B A) in
    add-mul (a * B) (b * A) l ∙ ap₂ ◌+◌ x y ∙ sym (add-mul g h (A * B))

pub sum-at : (f : Format) (x y : Float) (g h l : ℕ) → 0 < l → HasValue x false g l → HasValue y false h l → add f x y ≡ round f false (g + h) l
unfolding add
sum-at f nan y g h l L p q = absurd p
sum-at f (inf s) y g h l L p q = absurd p
sum-at f (fin true m e) y g h l L p q = absurd (true≢false p.0)
sum-at f (fin false m e) nan g h l L p q = absurd q
sum-at f (fin false m e) (inf t) g h l L p q = absurd q
sum-at f (fin false m e) (fin true n d) g h l L p q = absurd (true≢false q.0)
sum-at f (fin false m e) (fin false n d) g h l L p q =
    round_same f false (m * up e * down d + n * up d * down e) (down e * down d) (g + h) l (mul-pos (down_pos e) (down_pos d)) L
    (cross (m * up e) (n * up d) (down e) (down d) l g h p.1 q.1)

cross-half : (a A l s : ℕ) → a * l ≡ s * A → a * 1 * (l * 2) ≡ s * (A * 2)
cross-half a A l s p =
    let x : a * 1 * (l * 2) ≡ a * l * 2 = simp (mul-one, mul_assoc) in
    x ∙ ap (λ (z : ℕ). z * 2) p ∙ mul_assoc s A 2

product_is : (f : Format) (z : Float) (s l : ℕ) → 0 < l → HasValue z false s l → mul f z (fin false 1 (negsuc 0)) ≡ round f false s (l * 2)
unfolding mul
product_is f nan s l L v = absurd v
product_is f (inf t) s l L v = absurd v
product_is f (fin true m e) s l L v = absurd (true≢false v.0)
product_is f (fin false m e) s l L v = round_same f false (m * up e * 1) (down e * 2) s (l * 2) (mul-pos (down_pos e) (pow_pos 1)) (mul-pos L (pow_pos 1)) (cross-half (m * up e) (down e) l s v.1)

pub product_at : (f : Format) (z : Float) (s l : ℕ) → 0 < l → HasValue z false s l → mul f z half ≡ round f false s (l * 2)
product_at f z s l L v = ap (mul f z) half_is ∙ product_is f z s l L v

-- ---- q * 2 ^ k units, where the format keeps q, round to themselves
carry : (p k : ℕ) → 2 ≤ p → p + k ≡ p - 1 + suc k
carry p k h = omega arith

one_less : (p : ℕ) → 2 ≤ p → p - 1 < p
one_less p h = omega arith

whole-exact : (f : Format) (q k : ℕ) → q ≤ 2 ^ prec f → q * 2 ^ k < overflow f → HasValue (round f false (q * 2 ^ k) (2 ^ low f)) false (q * 2 ^ k) (2 ^ low f)
whole-exact f q k small fine = go (eq-or-lt_of_le small)
  where
    go : (q ≡ 2 ^ prec f) ⊎ (q < 2 ^ prec f) → HasValue (round f false (q * 2 ^ k) (2 ^ low f)) false (q * 2 ^ k) (2 ^ low f)
    go (inl e) =
        let p = prec f in
        let is : q * 2 ^ k ≡ 2 ^ (p - 1) * 2 ^ suc k = ap (λ (x : ℕ). x * 2 ^ k) e ∙ sym (pow-add 2 p k) ∙ ap (λ (x : ℕ). 2 ^ x) (carry p k (two f)) ∙ pow-add 2 (p - 1) (suc k) in
        round_exact f false (q * 2 ^ k) (2 ^ low f) (2 ^ (p - 1)) (suc k) (pow_pos (low f)) (pow-lt (one_less p (two f))) (subst (λ (x : ℕ). x < overflow f) is fine) (ap (λ (x : ℕ). x * 2 ^ low f) is)
    go (inr l) = round_exact f false (q * 2 ^ k) (2 ^ low f) q k (pow_pos (low f)) l fine refl

-- x is a number of f's smallest values, and twice that number is at most half of u away from m
pub record Half (f : Format) (x : Float) (m u : ℕ) : Type 0 where
  pub units : ℕ
  pub value : HasValue x false units (2 ^ low f)
  pub close : Close m (units * 2) u

-- ---- no digit was dropped by the sum: it is exact, and the product is off by half a unit at most
exactly : {m s : ℕ} → Close m s 1 → s ≡ m
exactly c = omega (arith, c.above, c.below)

no_more : {s r : ℕ} → Close s (r * 2) 2 → r ≤ s
no_more c = omega (arith, c.above)

few-digits : (p s l : ℕ) → 0 < l → s ≤ 2 ^ p → s * l < 2 ^ (p + 0) * (l * 2)
few-digits p s l L h =
    let a : s * l ≤ 2 ^ p * l = mul-le-mul_right l h in
    let b : 0 < 2 ^ p * l = mul-pos (pow_pos p) L in
    let c : 2 ^ (p + 0) * (l * 2) ≡ 2 ^ p * l * 2 = ap (λ (x : ℕ). 2 ^ x * (l * 2)) (add-zero p) ∙ sym (mul_assoc (2 ^ p) l 2) in
    omega arith

tiny : (f : Format) (s : ℕ) → s ≤ 2 ^ prec f → s < overflow f → Half f (round f false s (2 ^ low f * 2)) s 2
tiny f s small fine =
    let l = 2 ^ low f in
    let none : drop (prec f) (s * l) (l * 2) ≤ 0 = drop_le f s (l * 2) 0 (mul-pos (pow_pos (low f)) (pow_pos 1)) (few-digits (prec f) s l (pow_pos (low f)) small) in
    let c : Close s (grid f s (l * 2) * 2) 2 = close-wider (mul-le-mul_right 2 (pow_mono none)) (half-close f s) in
    record { units = grid f s (l * 2); value = round_val f s (l * 2) (lt_of_le_of_lt (no_more c) fine); close = c }

-- ---- some were: the product is exact
dropped : (f : Format) (m q k : ℕ) → q ≤ 2 ^ prec f → q * 2 ^ suc k < overflow f → Close m (q * 2 ^ suc k) (2 ^ suc k) → Half f (round f false (q * 2 ^ suc k) (2 ^ low f * 2)) m (2 ^ suc k)
dropped f m q k small fine c =
    let l = 2 ^ low f in
    let is : q * 2 ^ suc k ≡ q * 2 ^ k * 2 = ap (λ (x : ℕ). q * x) (pow-suc 2 k) ∙ sym (mul_assoc q (2 ^ k) 2) in
    let same : round f false (q * 2 ^ suc k) (l * 2) ≡ round f false (q * 2 ^ k) l =
    round_same f false (q * 2 ^ suc k) (l * 2) (q * 2 ^ k) l (mul-pos (pow_pos (low f)) (pow_pos 1)) (pow_pos (low f))
    (ap (λ (x : ℕ). x * l) is ∙ mul_assoc (q * 2 ^ k) 2 l ∙ ap (λ (x : ℕ). q * 2 ^ k * x) (mul_comm 2 l)) in
    let lower : q * 2 ^ k < overflow f = lt_of_le_of_lt (halves (q * 2 ^ k) (q * 2 ^ suc k) is) fine in
    record {
      units = q * 2 ^ k;
      value = subst (λ (x : Float). HasValue x false (q * 2 ^ k) l) (sym same) (whole-exact f q k small lower);
      close = subst (λ (x : ℕ). Close m x (2 ^ suc k)) is c;
    }
  where
    halves : (x y : ℕ) → y ≡ x * 2 → x ≤ y
    halves x y e = omega arith

-- ---- m units, rounded, times 0.5
half-wider : {f : Format} {x : Float} {m u v : ℕ} → u ≤ v → Half f x m u → Half f x m v
half-wider l h = record { units = h.units; value = h.value; close = close-wider l h.close }

by_digits : (f : Format) (m q k j : ℕ) → q ≤ 2 ^ prec f → k ≤ suc j → q * 2 ^ k < overflow f → Close m (q * 2 ^ k) (2 ^ k) → Half f (round f false (q * 2 ^ k) (2 ^ low f * 2)) m (2 ^ suc j)
by_digits f m q zero j small h fine c =
    half-wider (pow_mono {i = 1} (zero-lt-suc j))
    (subst (λ (x : ℕ). Half f (round f false (q * 1) (2 ^ low f * 2)) x 2) (exactly c) (tiny f (q * 1) (le_trans (le_of_eq (mul-one q)) small) fine))
by_digits f m q (suc k) j small h fine c = half-wider (pow_mono h) (dropped f m q k small fine c)

under : {m s u P : ℕ} → Close m s u → u ≤ P → m < P → s < P + P
under c h l = omega (arith, c.above, h, l)

module _ (f : Format) (m j : ℕ) (few : m < 2 ^ (prec f + suc j)) (range : prec f + suc j < low f + suc (emax f)) where
  abbrev l : ℕ
  l = 2 ^ low f

  abbrev k : ℕ
  k = drop (prec f) (m * l) l

  k-le : k ≤ suc j
  k-le = drop_le f m l (suc j) (pow_pos (low f)) (mul-lt-mul_of_pos_right few (pow_pos (low f)))

  fine : grid f m l < overflow f
  fine =
      lt_of_lt_of_le (under (units-close f m) (pow_mono (le_trans k-le (le-add_left (suc j) (prec f)))) few)
      (le_trans (le_of_eq (sym (two-pow-succ (prec f + suc j)))) (pow_mono range))

  pub halving : Half f (mul f (round f false m l) half) m (2 ^ suc j)
  halving = subst (λ (x : Float). Half f x m (2 ^ suc j)) (sym (product_at f (round f false m l) (grid f m l) l (pow_pos (low f)) (round_val f m l fine)))
      (by_digits f m (kept (prec f) (m * l) l) k j (kept-le (prec f) (m * l) l) k-le fine (units-close f m))
