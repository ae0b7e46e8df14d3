-- Definitions on lists and numbers that know nothing of trees and texts.
-- Assumes nothing.
use Rattle.std.specs.Prelude.{◌↔◌, Bool, true, false, cond, not, ◌&&◌, ◌||◌, ℕ, zero, suc, ◌+◌, eqb, get_or, set}
use mathlib.Core.List.{List, [], ◌∷◌, ◌++◌, Memᴰ}

-- two lists of numbers are the same
abbrev pub eq_list : List ℕ → List ℕ → Bool
eq_list [] [] = true
eq_list [] (y ∷ ys) = false
eq_list (x ∷ xs) [] = false
eq_list (x ∷ xs) (y ∷ ys) = eqb x y && eq_list xs ys

-- the test passes at a member of the list
abbrev pub any : {A : Type 0} → (A → Bool) → List A → Bool
any test [] = false
any test (x ∷ xs) = test x || any test xs

-- the test passes at every member
abbrev pub every : {A : Type 0} → (A → Bool) → List A → Bool
every test [] = true
every test (x ∷ xs) = test x && every test xs

-- v is in the list
unfoldable pub member : ℕ → List ℕ → Bool
member v [] = false
member v (x ∷ xs) = eqb x v || member v xs

-- each number of the one list is in the other
unfoldable pub within : List ℕ → List ℕ → Bool
within [] ys = true
within (x ∷ xs) ys = member x ys && within xs ys

-- nothing twice
abbrev pub NoDup : {A : Type 0} → List A → Type 0
NoDup [] = Unit {0}
NoDup (x ∷ xs) = (Memᴰ x xs → ⊥) × NoDup xs

-- the two lists have the same members
abbrev pub SameMembers : {A : Type 0} → List A → List A → Type 0
SameMembers {A} xs ys = (x : A) → Memᴰ x xs ↔ Memᴰ x ys

-- the test for no number twice
abbrev pub has_no_repeat : List ℕ → Bool
has_no_repeat [] = true
has_no_repeat (x ∷ xs) = not (any (eqb x) xs) && has_no_repeat xs

-- 1 where the test passes, and 0 where it fails
abbrev pub bit : Bool → ℕ
bit b = cond b 1 0

-- how many members of a list pass the test
abbrev pub count : {A : Type 0} → (A → Bool) → List A → ℕ
count test [] = 0
count test (x ∷ xs) = bit (test x) + count test xs

-- the positions 0 to k - 1
unfoldable pub positions : ℕ → List ℕ
positions zero = []
positions (suc k) = positions k ++ (k ∷ [])

-- the numbers with one more at place i
abbrev pub more : List ℕ → ℕ → List ℕ
more cs i = set cs i (get_or cs i 0 + 1)

-- the sum of a list
abbrev pub sum : List ℕ → ℕ
sum [] = 0
sum (x ∷ xs) = x + sum xs

-- f 0 + f 1 + .. + f (k - 1)
abbrev pub upto : (ℕ → ℕ) → ℕ → ℕ
upto f zero = 0
upto f (suc k) = upto f k + f k
