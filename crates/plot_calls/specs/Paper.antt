-- The plot call's answer in document 01's numbers and values, with the lent memory at exit.
-- Assumes nothing.
use Rattle.std.specs.Prelude.{List, ℕ, Float, Result}
use Rattle.meaning.specs.Answer.{Outcome}
use Rattle.calls.specs.Paper.{text_answer}
use Rattle.tokens.specs.declared.Refusal.{Refusal}
use Rattle.plots.specs.PlotCall.{PlotMemory}

-- the slices lent to it
abbrev pub plot_memory : List Float → List ℕ → PlotMemory
plot_memory rows columns = record { rows = rows; columns = columns }

-- the nodes that were written, or a refusal; and the slices at exit
abbrev pub plot_outcome : Result ℕ Refusal → List Float → List ℕ → Outcome ℕ PlotMemory
plot_outcome r rows columns = record { answer = text_answer r; memory = plot_memory rows columns }
