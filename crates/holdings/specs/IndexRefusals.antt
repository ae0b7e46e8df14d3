-- Which lines of the refusal list each call on an index can refuse by. In words: docs/RULES.md, 'Refusals'.
-- Assumes nothing.
use Rattle.std.specs.Prelude.{List, [], ◌∷◌, ◌++◌, ℕ}
use Rattle.meaning.specs.Kind.{either}
use Rattle.meaning.specs.Refusals.{one_refusals, unlike_refusals}

-- adding
abbrev pub add_refusals : List ℕ
add_refusals = one_refusals either ++ unlike_refusals ++ (6 ∷ 7 ∷ 8 ∷ 12 ∷ [])

-- asking and removing
abbrev pub number_refusals : List ℕ
number_refusals = 7 ∷ 12 ∷ 13 ∷ []
