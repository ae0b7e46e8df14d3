-- Which lines of the refusal list the plot call can refuse by. In words: docs/RULES.md, 'Refusals'.
-- Assumes nothing.
use Rattle.std.specs.Prelude.{List, [], ◌∷◌, ◌++◌, ℕ}
use Rattle.meaning.specs.Kind.{rooted_only}
use Rattle.meaning.specs.Refusals.{one_refusals}

-- plot call
abbrev pub plot_refusals : List ℕ
plot_refusals = one_refusals rooted_only ++ (7 ∷ 8 ∷ [])
