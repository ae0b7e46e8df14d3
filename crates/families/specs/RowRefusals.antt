-- Which lines of the refusal list each call on rows can refuse by. In words: docs/RULES.md, 'Refusals'.
-- Assumes nothing.
use Rattle.std.specs.Prelude.{List, [], ◌∷◌, ◌++◌, ℕ}
use Rattle.meaning.specs.Kind.{rooted_only}
use Rattle.meaning.specs.Refusals.{one_refusals}

-- row call
abbrev pub row_refusals : List ℕ
row_refusals = one_refusals rooted_only ++ (7 ∷ 8 ∷ [])

-- row text call
abbrev pub row_text_refusals : List ℕ
row_text_refusals = 7 ∷ 11 ∷ []

-- row pair call
abbrev pub row_pair_refusals : List ℕ
row_pair_refusals = 11 ∷ 5 ∷ []
