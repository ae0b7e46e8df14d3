-- The entries of an index: a number and a cut each, and the order in which they stand. In words: docs/RULES.md, 'The index'.
-- Assumes nothing.
use Rattle.std.specs.Prelude.{Bool, not, ◌&&◌, ◌||◌, List, [], ◌∷◌, ◌++◌, map, ℕ, suc, ◌*◌, ◌-◌, ◌+◌, ◌<◌}
use Rattle.meaning.specs.Lists.{positions}
use Rattle.meaning.specs.Sorted.{lesser, sort_by}
use Rattle.meaning.specs.Tree.{leaves}
use Rattle.meaning.specs.Move.{cut_at, forest}
use Rattle.meaning.specs.Listing.{Pair}
use Rattle.holdings.specs.Slots.{Slot, free, held, slot_at}

-- how many cuts the tree of a number has
abbrev pub cuts_of : Slot → ℕ
cuts_of free = 0
cuts_of (held t) = 2 * leaves t - 2

-- the forest text of its cut c
abbrev pub forest_of : Slot → ℕ → List ℕ
forest_of free c = []
forest_of (held t) c = forest (cut_at t c)

-- an entry is a number and a cut; its text
abbrev pub entry_text : List Slot → Pair → List ℕ
entry_text hs e = forest_of (slot_at hs e.0) e.1

-- it is an entry of the held trees
abbrev pub IsEntry : List Slot → Pair → Type 0
IsEntry hs e = e.1 < cuts_of (slot_at hs e.0)

-- the entries of the number x
abbrev pub own : ℕ → Slot → List Pair
own x h = map (λ c. (x, c)) (positions (cuts_of h))

-- those of the numbers from x on
unfoldable pub own_from : ℕ → List Slot → List Pair
own_from x [] = []
own_from x (h ∷ hs) = own x h ++ own_from (suc x) hs

-- how many those are
unfoldable pub total : List Slot → ℕ
total [] = 0
total (h ∷ hs) = cuts_of h + total hs

-- two numbers as a list, which are compared as texts are
abbrev pub two_of : Pair → List ℕ
two_of e = e.0 ∷ e.1 ∷ []

-- the entry p of the text xs stands before q of the text ys: in byte order of text, ties by tree and then cut
abbrev pub ranks : List ℕ → Pair → List ℕ → Pair → Bool
ranks xs p ys q = lesser xs ys || (not (lesser ys xs) && lesser (two_of p) (two_of q))

-- where `text` gives their texts
abbrev pub earlier : (Pair → List ℕ) → Pair → Pair → Bool
earlier text p q = ranks (text p) p (text q) q

-- all entries, in order
unfoldable pub entries : List Slot → List Pair
entries hs = sort_by (earlier (entry_text hs)) (own_from 0 hs)
