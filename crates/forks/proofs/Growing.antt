-- The first child of a clade when one clade more is looked at.
-- Assumes nothing.
use mathlib.Core.Path.{◌≡◌, refl, ap, ◌∙◌}
use mathlib.Core.Bool.{Bool, true, false, cond, not, ◌&&◌}
use mathlib.Core.List.{List, [], ◌∷◌, ◌++◌}
use Prim.Native.Nat.{ℕ, ◌+◌, ◌<◌, max}
use native.Mathlib.Omega.{arith}
use lib.Dec.{eqb}
use lib.ListN.{length, get_or, take}
use Rattle.std.proofs.lemmas.List.{take_more}
use Rattle.meaning.specs.Clade.{inside}
use Rattle.families.specs.Grown.{low_bit, leads, first_child}

larger : Bool → ℕ → ℕ → ℕ
larger b d best = cond b (max d best) best

larger_comm : (a b : Bool) (d e best : ℕ) → cond a (max d (cond b (max e best) best)) (cond b (max e best) best) ≡ cond b (max e (cond a (max d best) best)) (cond a (max d best) best)
larger_comm true true d e best = omega arith
larger_comm true false d e best = refl
larger_comm false true d e best = refl
larger_comm false false d e best = refl

pub first_child_push : (ds : List ℕ) (d c : ℕ) → first_child (ds ++ d ∷ []) c ≡ cond (leads c d) (max d (first_child ds c)) (first_child ds c)
unfolding first_child
first_child_push [] d c = refl
first_child_push (e ∷ ds) d c =
    ap (λ (m : ℕ). cond (leads c e) (max e m) m) (first_child_push ds d c) ∙ larger_comm (leads c e) (leads c d) e d (first_child ds c)

-- ---- what a walk along the clades finds
pub first_child_none : (c : ℕ) → first_child [] c ≡ low_bit c
unfolding first_child
first_child_none c = refl

pub first_child_more : (xs : List ℕ) (i c : ℕ) → i < length xs
    → first_child (take (i + 1) xs) c ≡ cond (leads c (get_or xs i 0)) (max (get_or xs i 0) (first_child (take i xs) c)) (first_child (take i xs) c)
first_child_more xs i c lt = ap (λ l. first_child l c) (take_more xs i 0 lt) ∙ first_child_push (take i xs) (get_or xs i 0) c

-- ---- a clade that leads is a smaller one inside, with the smallest label
pub leads_is : (c d : ℕ) → leads c d ≡ inside d c && (not (eqb d c) && inside (low_bit c) d)
unfolding leads
leads_is c d = refl
