-- A tree of joins read as one with any number of children: a node has two or more, by smallest label, and its text is theirs in brackets with commas between.
-- Assumes nothing.
use mathlib.Core.Path.{◌≡◌, refl, sym, ap, ap₂, ◌∙◌, subst}
use mathlib.Core.Logic.{◌⊎◌, inl, inr}
use mathlib.Core.Bool.{Bool, true, false}
use mathlib.Core.List.Memᴰ
use mathlib.Core.List.{List, [], ◌∷◌, ◌++◌, map, map-append, append_assoc, Memᴰ}
use Prim.Native.Nat.{ℕ, ◌≤◌, ◌<◌, min}
use native.Mathlib.Omega.{arith}
use lib.ListN.{length, length-append}
use Rattle.meaning.specs.Tree.{Canonical, least}
use Rattle.families.specs.Majority.{Multi, tip, join, beside, children, drawn, Single, Tidy, commas, write_multi}

-- some tree stands beside, so commas stand where lists meet
some-beside : (m : Multi) → (x : Multi) × (xs : List Multi) × (beside m ≡ x ∷ xs)
unfolding beside
some-beside (tip n) = (tip n, [], refl)
some-beside (join true a b) = (join true a b, [], refl)
some-beside (join false a b) = let (x, xs, e) = some-beside a in (x, xs ++ beside b, ap (λ (l : List Multi). l ++ beside b) e)

commas-append : (x : List ℕ) (xs : List (List ℕ)) (y : List ℕ) (ys : List (List ℕ)) → commas (x ∷ (xs ++ (y ∷ ys))) ≡ commas (x ∷ xs) ++ (44 ∷ commas (y ∷ ys))
unfolding commas
commas-append x [] y ys = refl
commas-append x (z ∷ zs) y ys = ap (λ (l : List ℕ). x ++ (44 ∷ l)) (commas-append z zs y ys) ∙ sym (append_assoc x (44 ∷ commas (z ∷ zs)) (44 ∷ commas (y ∷ ys)))

meet : (xs ys : List Multi) (x y : Multi) (us vs : List Multi) → xs ≡ x ∷ us → ys ≡ y ∷ vs
    → commas (map write_multi (xs ++ ys)) ≡ commas (map write_multi xs) ++ (44 ∷ commas (map write_multi ys))
meet xs ys x y us vs e f =
    ap₂ (λ (p q : List Multi). commas (map write_multi (p ++ q))) e f
    ∙ ap (λ (l : List (List ℕ)). commas (write_multi x ∷ l)) (map-append write_multi us (y ∷ vs))
    ∙ commas-append (write_multi x) (map write_multi us) (write_multi y) (map write_multi vs)
    ∙ ap₂ (λ (p q : List Multi). commas (map write_multi p) ++ (44 ∷ commas (map write_multi q))) (sym e) (sym f)

joined : (a b : Multi) → commas (map write_multi (beside a ++ beside b)) ≡ commas (map write_multi (beside a)) ++ (44 ∷ commas (map write_multi (beside b)))
joined a b =
    let (x, us, e) = some-beside a in
    let (y, vs, f) = some-beside b in
    meet (beside a) (beside b) x y us vs e f

-- what is put side by side is written with commas
pub write-beside : (m : Multi) → commas (map write_multi (beside m)) ≡ write_multi m
unfolding beside commas
write-beside (tip n) = refl
write-beside (join true a b) = refl
write-beside (join false a b) = joined a b ∙ ap₂ (λ (x y : List ℕ). x ++ (44 ∷ y)) (write-beside a) (write-beside b)

-- the text of a node: brackets around its children's texts, with commas between
pub write-children : (a b : Multi) → write_multi (join true a b) ≡ (40 ∷ commas (map write_multi (children (join true a b)))) ++ (41 ∷ [])
unfolding children
write-children a b =
    ap (λ (l : List ℕ). (40 ∷ l) ++ (41 ∷ [])) (ap₂ (λ (x y : List ℕ). x ++ (44 ∷ y)) (sym (write-beside a)) (sym (write-beside b)) ∙ sym (joined a b))

-- two or more children
pub children-two : (node : Bool) (a b : Multi) → 2 ≤ length (children (join node a b))
unfolding children
children-two node a b =
    let (x, us, e) = some-beside a in
    let (y, vs, f) = some-beside b in
    simp length-append (omega (arith, ap length e, ap length f))

-- each is one tree
pub beside-single : (m c : Multi) → Tidy m → Memᴰ c (beside m) → Single c
unfolding beside
beside-single (tip n) c Y i = subst Single (sym (Memᴰ.eq_of_singleton i)) tt
beside-single (join true a b) c Y i = subst Single (sym (Memᴰ.eq_of_singleton i)) tt
beside-single (join false a b) c Y i = go (Memᴰ.append_cases (beside a) i) (beside-single a c Y.1) (beside-single b c Y.2)
  where
    go : Memᴰ c (beside a) ⊎ Memᴰ c (beside b) → (Memᴰ c (beside a) → Single c) → (Memᴰ c (beside b) → Single c) → Single c
    go (inl i) f g = f i
    go (inr i) f g = g i

-- each has a smaller least label than all that follow
abbrev pub Ascends : List Multi → Type 0
Ascends [] = Unit {0}
Ascends (c ∷ cs) = ((d : Multi) → Memᴰ d cs → least (drawn c) < least (drawn d)) × Ascends cs

single-beside : (m : Multi) → Single m → beside m ≡ m ∷ []
unfolding beside
single-beside (tip n) s = refl
single-beside (join true a b) s = refl
single-beside (join false a b) s = absurd s

beside-least : (m c : Multi) → Memᴰ c (beside m) → least (drawn m) ≤ least (drawn c)
unfolding beside
beside-least (tip n) c i = omega (arith, ap (λ (x : Multi). least (drawn x)) (Memᴰ.eq_of_singleton i))
beside-least (join true a b) c i = omega (arith, ap (λ (x : Multi). least (drawn x)) (Memᴰ.eq_of_singleton i))
beside-least (join false a b) c i = go (Memᴰ.append_cases (beside a) i) (beside-least a c) (beside-least b c)
  where
    go : Memᴰ c (beside a) ⊎ Memᴰ c (beside b) → (Memᴰ c (beside a) → least (drawn a) ≤ least (drawn c))
        → (Memᴰ c (beside b) → least (drawn b) ≤ least (drawn c)) → min (least (drawn a)) (least (drawn b)) ≤ least (drawn c)
    go (inl i) f g = omega (arith, f i)
    go (inr i) f g = omega (arith, g i)

meet-ascends : (a b : Multi) → Single a → least (drawn a) < least (drawn b) → Ascends (beside b) → Ascends (beside a ++ beside b)
meet-ascends a b s h r = subst (λ (l : List Multi). Ascends (l ++ beside b)) (sym (single-beside a s)) (λ d i. omega (arith, beside-least b d i), r)

beside-ascends : (m : Multi) → Tidy m → Canonical (drawn m) → Ascends (beside m)
unfolding beside
beside-ascends (tip n) Y C = (λ d i. absurd (Memᴰ.not-nil i), tt)
beside-ascends (join true a b) Y C = (λ d i. absurd (Memᴰ.not-nil i), tt)
beside-ascends (join false a b) Y C = meet-ascends a b Y.0 C.2 (beside-ascends b Y.2 C.1)

-- children by smallest label
pub children-ascend : (m : Multi) → Tidy m → Canonical (drawn m) → Ascends (children m)
unfolding children
children-ascend (tip n) Y C = tt
children-ascend (join node a b) Y C = meet-ascends a b Y.0 C.2 (beside-ascends b Y.2 C.1)
