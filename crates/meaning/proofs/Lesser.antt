-- The order of lists of numbers is strict, and any two that differ can be compared.
-- Assumes nothing.
use mathlib.Core.Path.{◌≡◌, refl, sym, ap₂, ◌∙◌, subst₂}
use mathlib.Core.Logic.{◌↔◌, ◌⊎◌, inl, inr, ◌≢◌}
use mathlib.Core.Bool.{Bool, true, false, not, ◌&&◌, ◌||◌}
use mathlib.Core.List.{List, [], ◌∷◌}
use Prim.Native.Nat.{ℕ, ◌≤◌, ◌<◌}
use native.Mathlib.Omega.{arith}
use native.Mathlib.Decide.{ℕ_discrete}
use lib.Dec.{T, ltb, eqb, ltb→lt, lt→ltb, nltb→le}
use Rattle.meaning.specs.Sorted.{lesser}
use Rattle.meaning.proofs.Logic.{T-eq, T_and, T-left, T-right}

pub or_cases : (a b : Bool) → T (a || b) → T a ⊎ T b
or_cases true b t = inl tt
or_cases false b t = inr t

not-or : (a b : Bool) → T (not (a || b)) → T (not a) × T (not b)
not-or true b t = absurd t
not-or false b t = (tt, t)

-- one number is smaller, or they are equal and a further test passes: how two keys are compared
pub then-iff : (x y : ℕ) (b : Bool) → T (ltb x y || (eqb x y && b)) ↔ ((x < y) ⊎ ((x ≡ y) × T b))
then-iff x y b = (λ t. go (or_cases (ltb x y) (eqb x y && b) t), back)
  where
    go : T (ltb x y) ⊎ T (eqb x y && b) → (x < y) ⊎ ((x ≡ y) × T b)
    go (inl t) = inl (ltb→lt x y t)
    go (inr t) = let (p, q) = (T_and (eqb x y) b).0 t in inr ((T-eq x y).0 p, q)

    back : (x < y) ⊎ ((x ≡ y) × T b) → T (ltb x y || (eqb x y && b))
    back (inl h) = T-left (ltb x y) (eqb x y && b) (lt→ltb x y h)
    back (inr p) = T-right (ltb x y) (eqb x y && b) ((T_and (eqb x y) b).1 ((T-eq x y).1 p.0, p.1))

-- where it fails, the second is smaller, or they are equal and the rest fails
pub then-not : (x y : ℕ) (b : Bool) → T (not (ltb x y || (eqb x y && b))) → (y < x) ⊎ ((x ≡ y) × T (not b))
then-not x y b t = let (p, q) = not-or (ltb x y) (eqb x y && b) t in go (ℕ_discrete x y) (nltb→le x y p) b q
  where
    go : Dec (x ≡ y) → y ≤ x → (b : Bool) → T (not (eqb x y && b)) → (y < x) ⊎ ((x ≡ y) × T (not b))
    go (yes e) h b q = inr (e, rest (eqb x y) ((T-eq x y).1 e) b q)
      where
        rest : (a : Bool) → T a → (b : Bool) → T (not (a && b)) → T (not b)
        rest true t b q = q
        rest false t b q = absurd t
    go (no n) h b q = inl (omega arith)

-- by first numbers, then by the rest
abbrev Lesser : ℕ → List ℕ → ℕ → List ℕ → Type 0
Lesser x xs y ys = (x < y) ⊎ ((x ≡ y) × T (lesser xs ys))

-- never both ways
pub lesser-asym : (xs ys : List ℕ) → T (lesser xs ys) → T (lesser ys xs) → ⊥
unfolding lesser
lesser-asym [] [] s t = s
lesser-asym [] (y ∷ ys) s t = t
lesser-asym (x ∷ xs) [] s t = s
lesser-asym (x ∷ xs) (y ∷ ys) s t = go ((then-iff x y (lesser xs ys)).0 s) ((then-iff y x (lesser ys xs)).0 t) (lesser-asym xs ys)
  where
    go : Lesser x xs y ys → Lesser y ys x xs → (T (lesser xs ys) → T (lesser ys xs) → ⊥) → ⊥
    go (inl h) (inl g) f = omega arith
    go (inl h) (inr g) f = omega (arith, g.0)
    go (inr h) (inl g) f = omega (arith, h.0)
    go (inr h) (inr g) f = f h.1 g.1

-- one way, where they differ
pub lesser-total : (xs ys : List ℕ) → xs ≢ ys → T (not (lesser xs ys)) → T (lesser ys xs)
unfolding lesser
lesser-total [] [] n t = absurd (n refl)
lesser-total [] (y ∷ ys) n t = t
lesser-total (x ∷ xs) [] n t = tt
lesser-total (x ∷ xs) (y ∷ ys) n t = (then-iff y x (lesser ys xs)).1 (go (then-not x y (lesser xs ys) t) (lesser-total xs ys))
  where
    go : (y < x) ⊎ ((x ≡ y) × T (not (lesser xs ys))) → (xs ≢ ys → T (not (lesser xs ys)) → T (lesser ys xs)) → Lesser y ys x xs
    go (inl h) f = inl h
    go (inr p) f = inr (sym p.0, f (λ e. n (ap₂ (λ (a : ℕ) (l : List ℕ). a ∷ l) p.0 e)) p.1)

-- and from one to the next
pub lesser-trans : (xs ys zs : List ℕ) → T (lesser xs ys) → T (lesser ys zs) → T (lesser xs zs)
unfolding lesser
lesser-trans [] [] zs s t = absurd s
lesser-trans [] (y ∷ ys) [] s t = absurd t
lesser-trans [] (y ∷ ys) (z ∷ zs) s t = tt
lesser-trans (x ∷ xs) [] zs s t = absurd s
lesser-trans (x ∷ xs) (y ∷ ys) [] s t = absurd t
lesser-trans (x ∷ xs) (y ∷ ys) (z ∷ zs) s t =
    (then-iff x z (lesser xs zs)).1 (go ((then-iff x y (lesser xs ys)).0 s) ((then-iff y z (lesser ys zs)).0 t) (lesser-trans xs ys zs))
  where
    go : Lesser x xs y ys → Lesser y ys z zs → (T (lesser xs ys) → T (lesser ys zs) → T (lesser xs zs)) → Lesser x xs z zs
    go (inl h) (inl g) f = inl (omega arith)
    go (inl h) (inr g) f = inl (omega (arith, g.0))
    go (inr h) (inl g) f = inl (omega (arith, h.0))
    go (inr h) (inr g) f = inr (h.0 ∙ g.0, f h.1 g.1)

-- no list is lesser than itself
pub lesser-irrefl : (xs ys : List ℕ) → xs ≡ ys → T (lesser xs ys) → ⊥
lesser-irrefl xs ys e t = lesser-asym xs ys t (subst₂ (λ (a b : List ℕ). T (lesser a b)) e (sym e) t)

-- lists of which neither is the lesser are the same
pub neither-lesser : (xs ys : List ℕ) → (T (lesser xs ys) → ⊥) → (T (lesser ys xs) → ⊥) → xs ≡ ys
unfolding lesser
neither-lesser [] [] f g = refl
neither-lesser [] (y ∷ ys) f g = absurd (f tt)
neither-lesser (x ∷ xs) [] f g = absurd (g tt)
neither-lesser (x ∷ xs) (y ∷ ys) f g =
    let a : ¬ (x < y) = λ h. f ((then-iff x y (lesser xs ys)).1 (inl h)) in
    let b : ¬ (y < x) = λ h. g ((then-iff y x (lesser ys xs)).1 (inl h)) in
    let h : x ≡ y = omega arith in
    ap₂ (λ (n : ℕ) (l : List ℕ). n ∷ l) h (neither-lesser xs ys (λ t. f ((then-iff x y (lesser xs ys)).1 (inr (h, t)))) (λ t. g ((then-iff y x (lesser ys xs)).1 (inr (sym h, t)))))
