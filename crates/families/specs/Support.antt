-- Clade support: in how many trees of a table each clade of two or more labels occurs, and in which order the clades are listed.
-- Assumes nothing.
use Rattle.std.specs.Prelude.{Bool, not, ◌&&◌, ◌||◌, List, [], ◌∷◌, ◌++◌, map, ℕ, zero, suc, ◌+◌, ◌-◌, ◌*◌, ltb, eqb, length}
use Rattle.meaning.specs.Limits.{max_label, max_trees}
use Rattle.meaning.specs.Lists.{member, count}
use Rattle.meaning.specs.Sorted.{lesser, sort_by, put, keep}
use Rattle.meaning.specs.Tree.{Tree}
use Rattle.families.specs.Clades.{labels_of, clades}

-- how many trees have the clade c, copies counted
abbrev pub holders : List Tree → ℕ → ℕ
holders ts c = count (λ t. member c (clades t)) ts

-- c has the lesser labels, compared from the smallest on; a list that ends first is the lesser
abbrev pub by_labels : ℕ → ℕ → Bool
by_labels c d = lesser (labels_of c) (labels_of d)

-- c is listed before d: in more trees, or in as many and with the lesser labels
unfoldable pub ranks : List Tree → ℕ → ℕ → Bool
ranks ts c d = ltb (holders ts d) (holders ts c) || (eqb (holders ts d) (holders ts c) && by_labels c d)

-- the clades of all trees
unfoldable pub pooled : List Tree → List ℕ
pooled [] = []
pooled (t ∷ ts) = clades t ++ pooled ts

-- each member once
unfoldable pub once : List ℕ → List ℕ
once [] = []
once (x ∷ xs) = put (not (member x xs)) x (once xs)

-- the listed clades
unfoldable pub supported : List Tree → List ℕ
supported ts = sort_by (ranks ts) (once (pooled ts))

-- and beside each the number of trees
abbrev pub support : List Tree → List ℕ
support ts = map (holders ts) (supported ts)

-- clades of a full table: the whole label set, and at most 62 more of each tree
abbrev pub max_clades : ℕ
max_clades = max_trees * (max_label - 2) + 1

-- a clade of the majority tree: twice its number is above the number of trees
unfoldable pub majority : List Tree → ℕ → Bool
majority ts c = ltb (length ts) (2 * holders ts c)

-- the clades of two or more labels of the majority tree
abbrev pub chosen : List Tree → List ℕ
chosen ts = keep (majority ts) (supported ts)

-- those in n trees, then those in n - 1, and so on down to 1, each in the order of the list
unfoldable pub regrouped : List Tree → ℕ → List ℕ → List ℕ
regrouped ts zero cs = []
regrouped ts (suc n) cs = keep (λ c. eqb (holders ts c) (suc n)) cs ++ regrouped ts n cs
