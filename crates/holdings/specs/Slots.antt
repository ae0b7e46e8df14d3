-- The trees that an index holds, and their numbers: which sets of held trees there are, and what additions and removals make. In words: docs/RULES.md, 'The index'.
-- Assumes nothing.
use Rattle.std.specs.Prelude.{◌≡◌, List, [], ◌∷◌, ℕ, suc, length, get_or, set, replicate}
use Rattle.meaning.specs.Limits.{max_trees}
use Rattle.meaning.specs.Tree.{Tree, Good, Canonical, SameClade, canon}

-- what a number has: nothing, or a tree
pub data Slot : Type 0 where
  free : Slot
  held : Tree → Slot

-- what the number x has; numbers are places in the list
abbrev pub slot_at : List Slot → ℕ → Slot
slot_at hs x = get_or hs x free

-- a set of held trees: 160 numbers, canonical trees, one label set
pub record HeldTrees (hs : List Slot) : Type 0 where
  pub many : length hs ≡ max_trees
  pub good : (x : ℕ) (t : Tree) → slot_at hs x ≡ held t → Good t
  pub canonical : (x : ℕ) (t : Tree) → slot_at hs x ≡ held t → Canonical t
  pub alike : (x y : ℕ) (t u : Tree) → slot_at hs x ≡ held t → slot_at hs y ≡ held u → SameClade t u

-- no tree is held
abbrev pub empty : List Slot
empty = replicate max_trees free

-- the smallest free number; 160 where none is
unfoldable pub smallest_free : List Slot → ℕ
smallest_free [] = 0
smallest_free (free ∷ hs) = 0
smallest_free (held t ∷ hs) = suc (smallest_free hs)

-- a tree added: it gets the smallest free number
abbrev pub add : List Slot → Tree → List Slot
add hs t = set hs (smallest_free hs) (held (canon t))

-- the tree of x removed: its number is free again
abbrev pub remove : List Slot → ℕ → List Slot
remove hs x = set hs x free

-- the held trees in order of number
unfoldable pub trees : List Slot → List Tree
trees [] = []
trees (free ∷ hs) = trees hs
trees (held t ∷ hs) = t ∷ trees hs

-- the held numbers from x on, ascending
unfoldable pub numbers_from : ℕ → List Slot → List ℕ
numbers_from x [] = []
numbers_from x (free ∷ hs) = numbers_from (suc x) hs
numbers_from x (held t ∷ hs) = x ∷ numbers_from (suc x) hs

-- the held number at a place in ascending order
abbrev pub number_at : List Slot → ℕ → ℕ
number_at hs i = get_or (numbers_from 0 hs) i 0
