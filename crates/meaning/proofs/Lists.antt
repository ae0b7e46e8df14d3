-- Laws of lists: members and their numbers, tests, and numbers that occur once.
-- Assumes nothing.
use mathlib.Core.Path.{◌≡◌, refl, sym, ap, ap₂, subst, ◌∙◌}
use mathlib.Core.Logic.{◌↔◌, ◌⊎◌, inl, inr}
use mathlib.Core.Bool.{Bool, true, not, ◌||◌, or_assoc, or-true}
use mathlib.Core.List.Memᴰ
use mathlib.Core.List.{List, [], ◌∷◌, ◌++◌, map, Memᴰ}
use Prim.Native.Nat.{ℕ, zero, suc, ◌+◌, ◌<◌}
use native.Mathlib.Nat.{zero-add, suc-add}
use native.Mathlib.Omega.{arith}
use borrow.Author.Tests.{eqb-true, eq-eqb}
use lib.Dec.{T, T_not, not_T, eqb, eqb→eq, eqb_refl}
use lib.ListN.{length, drop, take, get_or}
use lib.Seq.{take-nil}
use Rattle.meaning.specs.Lists.{eq_list, any, every, member, within, NoDup, has_no_repeat}
use Rattle.meaning.proofs.Logic.{clash, T_and, T-left, T-right, and_left, and_right, cases}

-- a member has a number below the length, and each such number has a member
pub number : {A : Type 0} {x : A} {l : List A} (d : A) → Memᴰ x l → (i : ℕ) × (i < length l) × (get_or l i d ≡ x)
number d (Memᴰ.head e) = (0, omega arith, sym e)
number d (Memᴰ.tail m) = let (i, h, e) = number d m in (suc i, omega arith, e)

pub numbered : {A : Type 0} (l : List A) (d : A) (i : ℕ) → i < length l → Memᴰ (get_or l i d) l
numbered [] d i h = absurd (omega arith)
numbered (x ∷ l) d zero h = Memᴰ.head refl
numbered (x ∷ l) d (suc i) h = Memᴰ.tail (numbered l d i (omega arith))

-- the k-th of what f makes of a list
pub get_d_map : {A B : Type 0} (f : A → B) (l : List A) (k : ℕ) (d : A) (e : B) → k < length l → get_or (map f l) k e ≡ f (get_or l k d)
get_d_map f [] k d e h = absurd (omega arith)
get_d_map f (x ∷ l) zero d e h = refl
get_d_map f (x ∷ l) (suc k) d e h = get_d_map f l k d e (omega arith)

-- what the first p + n of a list have behind the first p
pub drop-take : {A : Type 0} (p n : ℕ) (l : List A) → drop p (take (p + n) l) ≡ take n (drop p l)
drop-take zero n l = ap (λ (k : ℕ). take k l) (zero-add n)
drop-take (suc p) n [] = ap (drop (suc p)) (take-nil (suc p + n)) ∙ sym (take-nil n)
drop-take (suc p) n (x ∷ l) = ap (λ (k : ℕ). drop (suc p) (take k (x ∷ l))) (suc-add p n) ∙ drop-take p n l

-- a test that passes at a member, or at all
pub any-mem : {A : Type 0} (p : A → Bool) (l : List A) → T (any p l) → (x : A) × Memᴰ x l × T (p x)
any-mem p [] t = absurd t
any-mem {A} p (x ∷ l) t =
    cases (λ b. T (b || any p l) → (y : A) × Memᴰ y (x ∷ l) × T (p y)) (p x) (λ e _. (x, Memᴰ.head refl, subst T (sym e) tt))
    (λ _ u. let (y, m, h) = any-mem p l u in (y, Memᴰ.tail m, h)) t

pub mem-any : {A : Type 0} (p : A → Bool) {x : A} {l : List A} → Memᴰ x l → T (p x) → T (any p l)
mem-any p (Memᴰ.head {x = y} {xs} e) t = T-left (p y) (any p xs) (subst (λ z. T (p z)) e t)
mem-any p (Memᴰ.tail {x = y} {xs} m) t = T-right (p y) (any p xs) (mem-any p m t)

pub every-mem : {A : Type 0} (p : A → Bool) {x : A} {l : List A} → T (every p l) → Memᴰ x l → T (p x)
every-mem p t (Memᴰ.head {x = y} {xs} e) = subst (λ z. T (p z)) (sym e) ((T_and (p y) (every p xs)).0 t).0
every-mem p t (Memᴰ.tail {x = y} {xs} m) = every-mem p ((T_and (p y) (every p xs)).0 t).1 m

-- n is one of the numbers, by computation
pub one_of : {n : ℕ} {xs : List ℕ} → T (any (eqb n) xs) → Memᴰ n xs
one_of {n} {xs} t = let (x, m, e) = any-mem (eqb n) xs t in Memᴰ.cast (eqb→eq n x e) m

-- each of the one list is one of the other, by computation
abbrev pub Among : List ℕ → List ℕ → Type 0
Among xs ys = T (every (λ n. any (eqb n) ys) xs)

pub among : {n : ℕ} {xs ys : List ℕ} → Among xs ys → Memᴰ n xs → Memᴰ n ys
among {ys} t m = one_of (every-mem (λ n. any (eqb n) ys) t m)

-- a member of a list put together is one of a part
pub member-append : (v : ℕ) (xs ys : List ℕ) → member v (xs ++ ys) ≡ (member v xs || member v ys)
unfolding member
member-append v [] ys = refl
member-append v (x ∷ xs) ys = ap (λ (d : Bool). eqb x v || d) (member-append v xs ys) ∙ sym (or_assoc (eqb x v) (member v xs) (member v ys))

-- the test says who is a member
pub member-in : (v : ℕ) (xs : List ℕ) → member v xs ≡ true → Memᴰ v xs
unfolding member
member-in v [] h = clash cc
member-in v (x ∷ xs) h =
    cases (λ d. (d || member v xs) ≡ true → Memᴰ v (x ∷ xs)) (eqb x v) (λ e _. Memᴰ.head (sym (eqb-true x v e))) (λ _ g. Memᴰ.tail (member-in v xs g)) h

pub in-member : {v : ℕ} {xs : List ℕ} → Memᴰ v xs → member v xs ≡ true
unfolding member
in-member {v} (Memᴰ.head {x} e) = rw (eq-eqb x v (sym e))
in-member {v} (Memᴰ.tail {x} m) = rw (in-member m) (or-true (eqb x v))

-- the test for each number of xs in ys says that it is there
pub within_all : (xs ys : List ℕ) → within xs ys ≡ true → (l : ℕ) → Memᴰ l xs → Memᴰ l ys
unfolding within
within_all [] ys h l m = absurd (Memᴰ.not-nil m)
within_all (x ∷ xs) ys h l (Memᴰ.head e) = Memᴰ.cast e (member-in x ys (and_left (member x ys) (within xs ys) h))
within_all (x ∷ xs) ys h l (Memᴰ.tail m) = within_all xs ys (and_right (member x ys) (within xs ys) h) l m

pub all-within : (xs ys : List ℕ) → ((l : ℕ) → Memᴰ l xs → Memᴰ l ys) → within xs ys ≡ true
unfolding within
all-within [] ys f = refl
all-within (x ∷ xs) ys f = rw (in-member (f x (Memᴰ.head refl))) (all-within xs ys (λ l m. f l (Memᴰ.tail m)))

-- two lists without a number twice and without one in common
pub nodup_append : (xs ys : List ℕ) → NoDup xs → NoDup ys → ((l : ℕ) → Memᴰ l xs → Memᴰ l ys → ⊥) → NoDup (xs ++ ys)
nodup_append [] ys a b f = b
nodup_append (x ∷ xs) ys a b f = (λ m. go (Memᴰ.append_cases xs m), nodup_append xs ys a.1 b (λ l m. f l (Memᴰ.tail m)))
  where
    go : Memᴰ x xs ⊎ Memᴰ x ys → ⊥
    go (inl m) = a.0 m
    go (inr m) = f x (Memᴰ.head refl) m

no_more : {x : ℕ} {xs ys : List ℕ} → (Memᴰ x ys → ⊥) → ((l : ℕ) → Memᴰ l xs → Memᴰ l ys → ⊥) → (l : ℕ) → Memᴰ l (x ∷ xs) → Memᴰ l ys → ⊥
no_more f g l (Memᴰ.head e) j = f (Memᴰ.cast (sym e) j)
no_more f g l (Memᴰ.tail m) j = g l m j

pub nodup-parts : (xs ys : List ℕ) → NoDup (xs ++ ys) → NoDup xs × NoDup ys × ((l : ℕ) → Memᴰ l xs → Memᴰ l ys → ⊥)
nodup-parts [] ys n = (tt, n, λ l m. absurd (Memᴰ.not-nil m))
nodup-parts (x ∷ xs) ys n =
    let (a, b, f) = nodup-parts xs ys n.1 in
    ((λ m. n.0 (Memᴰ.append_left ys m), a), b, no_more (λ m. n.0 (Memᴰ.append_right xs m)) f)

-- the test for that
pub no_dup-iff : (l : List ℕ) → T (has_no_repeat l) ↔ NoDup l
no_dup-iff [] = (λ t. t, λ t. t)
no_dup-iff (x ∷ l) =
    let b = any (eqb x) l in (
      λ t. let (f, g) = (T_and (not b) (has_no_repeat l)).0 t in (λ m. T_not b f (mem-any (eqb x) m (eqb_refl x)), (no_dup-iff l).0 g),
      λ n. (T_and (not b) (has_no_repeat l)).1 (not_T b (λ t. let (y, m, e) = any-mem (eqb x) l t in n.0 (Memᴰ.cast (eqb→eq x y e) m)), (no_dup-iff l).1 n.1),
    )

-- the test of two lists
pub eq_list-iff : (xs ys : List ℕ) → T (eq_list xs ys) ↔ (xs ≡ ys)
eq_list-iff [] [] = (λ _. refl, λ _. tt)
eq_list-iff [] (y ∷ ys) = (λ t. absurd t, λ e. clash cc)
eq_list-iff (x ∷ xs) [] = (λ t. absurd t, λ e. clash cc)
eq_list-iff (x ∷ xs) (y ∷ ys) =
    let rest = eq_list-iff xs ys in (
      λ t. let (h, k) = (T_and (eqb x y) (eq_list xs ys)).0 t in ap₂ ◌∷◌ (eqb→eq x y h) (rest.0 k),
      λ e. (T_and (eqb x y) (eq_list xs ys)).1 (let z : x ≡ y = cc in rw z (eqb_refl y), rest.1 (cc)),
    )
