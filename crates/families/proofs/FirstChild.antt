-- The first child of a clade: the largest clade of a list that leads in it, or its smallest label alone.
-- Assumes nothing.
use mathlib.Core.Path.{◌≡◌, refl, sym, subst}
use mathlib.Core.Logic.{◌⊎◌, inl, inr, ◌≢◌}
use mathlib.Core.Bool.{Bool, true, false, cond, not, ◌&&◌}
use mathlib.Core.List.Memᴰ
use mathlib.Core.List.{List, [], ◌∷◌, Memᴰ}
use Prim.Native.Nat.{ℕ, suc, ◌^◌, ◌≤◌, max}
use native.Mathlib.Omega.{arith}
use native.Mathlib.Decide.{ℕ_discrete, dec_le}
use lib.Count.{count_trailing_zeros}
use lib.Dec.{T, eqb, T_not, not_T}
use Rattle.meaning.specs.Clade.{digit, HasLabel, lowest, inside}
use Rattle.meaning.proofs.Logic.{T-eq, T_and}
use Rattle.meaning.proofs.LabelBits.{Under, under-iff, clear-iff, inside-iff, pow-has, label-pow}
use Rattle.families.specs.Clades.{size}
use Rattle.families.specs.Grown.{low_bit, leads, first_child}
use Rattle.families.proofs.Clades.{Fit, around, beside}

-- a label alone is a part of a clade that has it
pub single-in : (j d : ℕ) → HasLabel (suc j) d → Under (2 ^ j) d
single-in j d h = (under-iff (2 ^ j) d).1 (λ l i. subst (λ (k : ℕ). HasLabel k d) (sym ((label-pow l j).0 i)) h)

-- and fits any clade
pub single-fits : (j d : ℕ) → Fit d (2 ^ j)
single-fits j d = go (ℕ_discrete (digit (suc j) d) 1)
  where
    go : Dec (HasLabel (suc j) d) → Fit d (2 ^ j)
    go (yes h) = around (single-in j d h)
    go (no n) = beside ((clear-iff d (2 ^ j)).1 (λ l h i. n (subst (λ (k : ℕ). HasLabel k d) ((label-pow l j).0 i) h)))

-- in a clade of the family: a smaller one with its smallest label, and no such one is larger
pub record First (cs : List ℕ) (c f : ℕ) : Type 0 where
  pub is : f ≡ first_child cs c
  pub part : Under f c
  pub proper : f ≢ c
  pub lead : HasLabel (lowest c) f
  pub from : (size f ≡ 1) ⊎ Memᴰ f cs
  pub suits : (d : ℕ) → Memᴰ d cs → Fit d f
  pub most : (d : ℕ) → Memᴰ d cs → Under d c → d ≢ c → HasLabel (lowest c) d → d ≤ f

-- when d leads, and what that says
pub leads-of : (c d : ℕ) → Under d c → d ≢ c → HasLabel (lowest c) d → T (leads c d)
unfolding leads
leads-of c d u n h =
    let r : T (not (eqb d c)) = not_T (eqb d c) (λ t. n ((T-eq d c).0 t)) in
    let s : T (inside (low_bit c) d) = (inside-iff (low_bit c) d).1 (single-in (count_trailing_zeros 64 c) d h) in
    (T_and (inside d c) (not (eqb d c) && inside (low_bit c) d)).1 ((inside-iff d c).1 u, (T_and (not (eqb d c)) (inside (low_bit c) d)).1 (r, s))

pub of-leads : (c d : ℕ) → T (leads c d) → Under d c × (d ≢ c) × HasLabel (lowest c) d
unfolding leads
of-leads c d t =
    let (p, q) = (T_and (inside d c) (not (eqb d c) && inside (low_bit c) d)).0 t in
    let (r, s) = (T_and (not (eqb d c)) (inside (low_bit c) d)).0 q in
    let low : HasLabel (lowest c) d = (under-iff (low_bit c) d).0 ((inside-iff (low_bit c) d).0 s) (lowest c) (pow-has (count_trailing_zeros 64 c)) in
    ((inside-iff d c).0 p, λ e. T_not (eqb d c) r ((T-eq d c).1 e), low)

-- no clade of the list that leads is larger than the first child
pub first-most : (cs : List ℕ) (c d : ℕ) → Memᴰ d cs → T (leads c d) → d ≤ first_child cs c
unfolding first_child
first-most [] c d m t = absurd (Memᴰ.not-nil m)
first-most (x ∷ xs) c d m t = go (leads c x) (λ e. subst (λ (y : ℕ). T (leads c y)) e t) (first-most xs c d) m
  where
    go : (b : Bool) → (d ≡ x → T b) → (Memᴰ d xs → T (leads c d) → d ≤ first_child xs c) → Memᴰ d (x ∷ xs)
        → d ≤ cond b (max x (first_child xs c)) (first_child xs c)
    go true s f (Memᴰ.head e) = omega arith
    go true s f (Memᴰ.tail m) = omega (arith, f m t)
    go false s f (Memᴰ.head e) = absurd (s e)
    go false s f (Memᴰ.tail m) = f m t

-- the smallest label alone, or a clade of the list that leads
abbrev pub Choice : List ℕ → ℕ → ℕ → Type 0
Choice cs c f = (f ≡ low_bit c) ⊎ (Memᴰ f cs × T (leads c f))

-- the first child is one of these
pub first-choice : (cs : List ℕ) (c : ℕ) → Choice cs c (first_child cs c)
unfolding first_child
first-choice [] c = inl refl
first-choice (d ∷ ds) c = go (leads c d) (λ t. t) (more (first_child ds c) (first-choice ds c))
  where
    more : (f : ℕ) → Choice ds c f → Choice (d ∷ ds) c f
    more f (inl e) = inl e
    more f (inr p) = inr (Memᴰ.tail p.0, p.1)

    pick : (f : ℕ) → T (leads c d) → Choice (d ∷ ds) c f → Dec (f ≤ d) → Choice (d ∷ ds) c (max d f)
    pick f t p (yes h) = let e : d ≡ max d f = omega arith in subst (Choice (d ∷ ds) c) e (inr (Memᴰ.head refl, t))
    pick f t p (no h) = let e : f ≡ max d f = omega arith in subst (Choice (d ∷ ds) c) e p

    go : (b : Bool) → (T b → T (leads c d)) → Choice (d ∷ ds) c (first_child ds c) → Choice (d ∷ ds) c (cond b (max d (first_child ds c)) (first_child ds c))
    go true t p = pick (first_child ds c) (t tt) p (dec_le (first_child ds c) d)
    go false t p = p
