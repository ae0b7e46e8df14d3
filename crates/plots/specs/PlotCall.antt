-- The plot call: from the text and the lent memory at entry to the answer and the memory at exit. In words: docs/RULES.md, 'The calls' and 'Plots'.
-- Assumes nothing.
use Rattle.std.specs.Prelude.{List, [], ◌∷◌, ℕ, length, Float}
use Rattle.meaning.specs.Limits.{max_nodes}
use Rattle.meaning.specs.Tree.{Tree, canon}
use Rattle.meaning.specs.Kind.{Kinded, rooted_only}
use Rattle.meaning.specs.Reading.{read_tree}
use Rattle.meaning.specs.Answer.{Answer, accepted, Outcome, written, conclude}
use Rattle.meaning.specs.Calls.{Slice, enough, lent, limited, answered}
use Rattle.plots.specs.Plot.{rows, columns}

-- the slices lent to the plot call: for the rows, and for the columns
pub record PlotMemory : Type 0 where
  pub rows : List Float
  pub columns : List ℕ

-- 127 floats and 127 numbers are lent
abbrev pub plot_slices : PlotMemory → List Slice
plot_slices memory = (max_nodes, length memory.rows) ∷ (max_nodes, length memory.columns) ∷ []

-- what the plot call reads: exactly one tree, which is rooted
abbrev pub plot_read : List ℕ → PlotMemory → Answer Kinded
plot_read s memory = lent (enough (plot_slices memory)) (limited 0 s (answered 0 (read_tree rooted_only s)))

-- the row and the column of every node in the order of the canonical text, and how many nodes that are
abbrev pub plot_of : Tree → PlotMemory → Outcome ℕ PlotMemory
plot_of t memory = record {
  answer = accepted (length (rows (canon t)));
  memory = record { rows = written (rows (canon t)) memory.rows; columns = written (columns (canon t)) memory.columns };
}

-- plot call
abbrev pub plot_call : List ℕ → PlotMemory → Outcome ℕ PlotMemory
plot_call s memory = conclude (plot_read s memory) memory λ x. plot_of x.tree memory
