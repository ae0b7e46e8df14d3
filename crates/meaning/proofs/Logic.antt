-- Laws of tests, and what follows where two of them clash.
-- Assumes nothing.
use mathlib.Core.Path.{◌≡◌, refl, sym, subst}
use mathlib.Core.Logic.{◌↔◌}
use mathlib.Core.Bool.{Bool, true, false, ◌&&◌, ◌||◌, and-eq-true_iff}
use Prim.Native.Nat.{ℕ}
use native.Mathlib.Omega.{arith}
use lib.Dec.{T, eqb, eqb→eq, eqb_refl}

-- two things that differ can't be equal: `clash cc`, where the equations in reach say that they are
pub clash : {A : Type 0} → ◌≡◌ {A = ℕ} 0 1 → A
clash e = absurd (omega arith)

-- by cases on a test
pub cases : (P : Bool → Type 0) (d : Bool) → (d ≡ true → P true) → (d ≡ false → P false) → P d
cases P true f g = f refl
cases P false f g = g refl

-- one thing exactly when another, and that exactly when a third
pub iff-then : {A B C : Type 0} → A ↔ B → B ↔ C → A ↔ C
iff-then f g = (λ a. g.0 (f.0 a), λ c. f.1 (g.1 c))

-- the test of two numbers
pub T-eq : (a b : ℕ) → T (eqb a b) ↔ (a ≡ b)
T-eq a b = (eqb→eq a b, λ e. subst (λ (x : ℕ). T (eqb a x)) e (eqb_refl a))

-- tests that pass together
pub T_and : (a b : Bool) → T (a && b) ↔ (T a × T b)
T_and true b = (λ t. (tt, t), λ t. t.1)
T_and false b = (λ t. absurd t, λ t. t.0)

-- one of two tests that passes
pub T-left : (a b : Bool) → T a → T (a || b)
T-left true b t = tt
T-left false b t = absurd t

pub T-right : (a b : Bool) → T b → T (a || b)
T-right true b t = tt
T-right false b t = t

-- of two tests of which none passes, each fails; of two that both pass, each passes
pub or_left : (a b : Bool) → (a || b) ≡ false → a ≡ false
or_left true b h = h
or_left false b h = refl

pub or_right : (a b : Bool) → (a || b) ≡ false → b ≡ false
or_right true b h = clash cc
or_right false b h = h

pub and_left : (a b : Bool) → (a && b) ≡ true → a ≡ true
and_left a b h = ((and-eq-true_iff a b).0 h).0

pub and_right : (a b : Bool) → (a && b) ≡ true → b ≡ true
and_right a b h = ((and-eq-true_iff a b).0 h).1

-- two tests that pass at the same time are the same
pub both-tests : (a b : Bool) → (a ≡ true) ↔ (b ≡ true) → a ≡ b
both-tests true b h = sym (h.0 refl)
both-tests false true h = h.1 refl
both-tests false false h = refl
