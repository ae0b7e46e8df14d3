-- A rooted tree as a row of numbers: its label set, then its clades of two or more labels in ascending order. Which numbers are a row, and the tree of a row. In words: docs/RULES.md, 'Rows'.
-- Assumes nothing.
use Rattle.std.specs.Prelude.{Bool, true, false, ◌&&◌, ◌||◌, List, [], ◌∷◌, ℕ, suc, ◌^◌, leb, ltb, eqb, length}
use Rattle.meaning.specs.Limits.{max_label}
use Rattle.meaning.specs.Lists.{every}
use Rattle.meaning.specs.Tree.{Tree, leaf}
use Rattle.meaning.specs.Clade.{clade, inside, disjoint}
use Rattle.families.specs.Clades.{size, clades}
use Rattle.meaning.specs.Sorted.{sort_by}
use Rattle.families.specs.Grown.{grow}

-- the row of a tree
abbrev pub row : Tree → List ℕ
row t = clade t ∷ sort_by ltb (clades t)

-- each number is smaller than the next, where `from` stands before the first
unfoldable pub rises_from : ℕ → List ℕ → Bool
rises_from from [] = true
rises_from from (x ∷ xs) = ltb from x && rises_from x xs

-- nested, one way or the other, or disjoint
abbrev pub fits : ℕ → ℕ → Bool
fits c d = inside c d || (inside d c || disjoint c d)

-- any two fit
unfoldable pub all_fit : List ℕ → Bool
all_fit [] = true
all_fit (c ∷ cs) = every (fits c) cs && all_fit cs

-- two or more labels, all of them in s
abbrev pub part_of : ℕ → ℕ → Bool
part_of s c = leb 2 (size c) && inside c s

-- the numbers are a row: a label set of 64 bits, one clade fewer than labels, ascending, each a part of the label set, any two nested or disjoint
unfoldable pub is_row : List ℕ → Bool
is_row [] = false
is_row (s ∷ cs) = ltb s (2 ^ max_label) && (eqb (size s) (suc (length cs)) && (rises_from 0 cs && (every (part_of s) cs && all_fit cs)))

-- the tree of a row, in canonical order
unfoldable pub row_tree : List ℕ → Tree
row_tree [] = leaf 0
row_tree (s ∷ cs) = grow max_label cs s
