-- Each member of a list once.
-- Assumes nothing.
use mathlib.Core.Path.{◌≡◌, refl, sym, subst}
use mathlib.Core.Logic.{◌⊎◌, inl, inr}
use mathlib.Core.Bool.{Bool, true, false, not}
use mathlib.Core.List.Memᴰ
use mathlib.Core.List.{List, [], ◌∷◌, Memᴰ}
use Prim.Native.Nat.{ℕ}
use lib.Dec.{T, T_not}
use Rattle.meaning.specs.Lists.{NoDup, SameMembers, member}
use Rattle.meaning.proofs.Logic.{cases}
use Rattle.meaning.proofs.Lists.{member-in, in-member}
use Rattle.meaning.specs.Sorted.{put}
use Rattle.meaning.proofs.Keep.{put-cases, put_front, put-behind, put-nodup}
use Rattle.families.specs.Support.{once}

-- the test of membership says who is a member
pub member-T : (v : ℕ) (xs : List ℕ) → T (member v xs) → Memᴰ v xs
member-T v xs t = cases (λ b. T b → member v xs ≡ b → Memᴰ v xs) (member v xs) (λ _ _. member-in v xs) (λ _ n _. absurd n) t refl

once-from : (xs : List ℕ) (y : ℕ) → Memᴰ y (once xs) → Memᴰ y xs
unfolding once
once-from [] y m = m
once-from (x ∷ xs) y m = go (put-cases _ x (once xs) y m) (once-from xs y)
  where
    go : {B : Type 0} → (B × (y ≡ x)) ⊎ Memᴰ y (once xs) → (Memᴰ y (once xs) → Memᴰ y xs) → Memᴰ y (x ∷ xs)
    go (inl (_, e)) f = Memᴰ.head e
    go (inr m) f = Memᴰ.tail (f m)

-- none twice
pub once-nodup : (xs : List ℕ) → NoDup (once xs)
unfolding once
once-nodup [] = tt
once-nodup (x ∷ xs) = put-nodup (not (member x xs)) x (once xs) (λ t m. T_not (member x xs) t (subst T (sym (in-member (once-from xs x m))) tt)) (once-nodup xs)

from-once : (xs : List ℕ) (y : ℕ) → Memᴰ y xs → Memᴰ y (once xs)
unfolding once
from-once [] y m = m
from-once (x ∷ xs) y (Memᴰ.head e) = Memᴰ.cast e (go (member x xs) refl (from-once xs x))
  where
    go : (b : Bool) → member x xs ≡ b → (Memᴰ x xs → Memᴰ x (once xs)) → Memᴰ x (put (not (member x xs)) x (once xs))
    go true q f = put-behind (not (member x xs)) x (once xs) x (f (member-in x xs q))
    go false q f = put_front (not (member x xs)) x (once xs) (subst (λ (b : Bool). T (not b)) (sym q) tt)
from-once (x ∷ xs) y (Memᴰ.tail m) = put-behind (not (member x xs)) x (once xs) y (from-once xs y m)

-- the same members
pub once-in : (xs : List ℕ) → SameMembers (once xs) xs
once-in xs y = (once-from xs y, from-once xs y)
