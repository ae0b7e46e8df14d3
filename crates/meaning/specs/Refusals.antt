-- Which lines of the refusal list each reader and each call can refuse by. In words: docs/RULES.md, 'Refusals'.
-- Assumes nothing.
use Rattle.std.specs.Prelude.{List, [], ◌∷◌, ◌++◌, ℕ}
use Rattle.meaning.specs.Kind.{Takes, either, rooted_only}

-- reading a tree
abbrev pub tree_refusals : List ℕ
tree_refusals = 1 ∷ 2 ∷ 3 ∷ 4 ∷ []

-- a tree that can't stand beside another, or is not taken
abbrev pub unlike_refusals : List ℕ
unlike_refusals = 10 ∷ 5 ∷ []

-- reading a text of one tree, of either kind or a rooted one
abbrev pub one_refusals : Takes → List ℕ
one_refusals either = tree_refusals
one_refusals rooted_only = tree_refusals ++ (10 ∷ [])

-- reading a table
abbrev pub table_refusals : List ℕ
table_refusals = tree_refusals ++ unlike_refusals ++ (6 ∷ [])

-- form call
abbrev pub form_refusals : List ℕ
form_refusals = one_refusals either ++ (7 ∷ 8 ∷ [])

-- cut call
abbrev pub cut_refusals : List ℕ
cut_refusals = one_refusals rooted_only ++ (7 ∷ 8 ∷ 9 ∷ [])

-- pair call
abbrev pub pair_refusals : List ℕ
pair_refusals = tree_refusals ++ unlike_refusals ++ (8 ∷ [])

-- table call, graph call, interchange call and islands call
abbrev pub table_call_refusals : List ℕ
table_call_refusals = table_refusals ++ (7 ∷ 8 ∷ [])

-- pair lister: nothing is lent
abbrev pub sheet_refusals : List ℕ
sheet_refusals = table_refusals ++ (8 ∷ [])

-- sheet call: a text's refusal is what it prints
abbrev pub sheet_call_refusals : List ℕ
sheet_call_refusals = 7 ∷ []
