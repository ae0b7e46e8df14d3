-- The answers of the exported functions: the result and the two lent numbers at exit, as document 01's values.
-- Assumes nothing.
use Rattle.std.specs.Prelude.{true, false, List, ℕ, zero, suc, ◌≤◌, Float}
use Rattle.meaning.specs.Answer.{Answer, accepted, refusal, Outcome, Comparison, TableSize, TableMemory, GraphSize, GraphMemory, FirstsMemory, IslandsMemory}
use Rattle.meaning.specs.Copies.{Choice, merged, kept_apart}
use Rattle.plots.specs.PlotCall.{PlotMemory}
use Rattle.plot_calls.specs.Paper.{plot_memory}

-- result 0: accepted, and the numbers say what; else the refusal's number, and the numbers are which text and the place
abbrev pub coded : {A : Type 0} → (ℕ → ℕ → Answer A) → ℕ → ℕ → ℕ → Answer A
coded value zero x y = value x y
coded value (suc n) x y = refusal (suc n) x y

-- Numbers beside a result 0 that stand for no value are taken for a refusal 0, which no call gives: so no two codes are one answer.

-- the form call, the cut call and the sheet call: the bytes written, and 0; the row call: its numbers, and 0; the plot call: the nodes, and 0
abbrev pub text_value : ℕ → ℕ → Answer ℕ
text_value x zero = accepted x
text_value x (suc y) = refusal 0 x (suc y)

-- the pair calls: 1 for yes and 0 for no, and how many forests were compared
abbrev pub pair_value : ℕ → ℕ → Answer Comparison
pair_value zero y = accepted (record { yes = false; forests = y })
pair_value (suc zero) y = accepted (record { yes = true; forests = y })
pair_value (suc (suc x)) y = refusal 0 (suc (suc x)) y

-- the index remove call: 0 and 0, as there is no more to say
abbrev pub done_value : ℕ → ℕ → Answer (Unit {0})
done_value zero zero = accepted tt
done_value (suc x) zero = refusal 0 (suc x) 0
done_value x (suc y) = refusal 0 x (suc y)

-- the table call: the bytes written, and the trees
abbrev pub table_value : ℕ → ℕ → Answer TableSize
table_value x y = accepted (record { bytes = x; trees = y })

-- the calls that list pairs: the trees, and the pairs
abbrev pub graph_value : ℕ → ℕ → Answer GraphSize
graph_value x y = accepted (record { trees = x; pairs = y })

-- with the lent memory at exit
abbrev pub text_coded : ℕ → ℕ → ℕ → List ℕ → Outcome ℕ (List ℕ)
text_coded r x y out = record { answer = coded text_value r x y; memory = out }

abbrev pub plot_coded : ℕ → ℕ → ℕ → List Float → List ℕ → Outcome ℕ PlotMemory
plot_coded r x y rows columns = record { answer = coded text_value r x y; memory = plot_memory rows columns }

abbrev pub done_coded : ℕ → ℕ → ℕ → List ℕ → Outcome (Unit {0}) (List ℕ)
done_coded r x y memory = record { answer = coded done_value r x y; memory = memory }

abbrev pub table_coded : ℕ → ℕ → ℕ → List ℕ → List ℕ → Outcome TableSize TableMemory
table_coded r x y texts ends = record { answer = coded table_value r x y; memory = record { texts = texts; ends = ends } }

abbrev pub graph_coded : ℕ → ℕ → ℕ → List ℕ → List ℕ → Outcome GraphSize GraphMemory
graph_coded r x y pairs counts = record { answer = coded graph_value r x y; memory = record { pairs = pairs; counts = counts } }

-- a choice: 0 merges copies, any other number keeps them apart
abbrev pub choice_coded : ℕ → Choice
choice_coded zero = merged
choice_coded (suc n) = kept_apart

abbrev pub firsts_coded : ℕ → ℕ → ℕ → List ℕ → List ℕ → List ℕ → Outcome GraphSize FirstsMemory
firsts_coded r x y pairs counts firsts = record { answer = coded graph_value r x y; memory = record { graph = record { pairs = pairs; counts = counts }; firsts = firsts } }

abbrev pub islands_coded : ℕ → ℕ → ℕ → List ℕ → List ℕ → List ℕ → List ℕ → Outcome GraphSize IslandsMemory
islands_coded r x y pairs counts firsts islands = record {
  answer = coded graph_value r x y;
  memory = record { lists = record { graph = record { pairs = pairs; counts = counts }; firsts = firsts }; islands = islands };
}

-- what is asked of an answer that is to be coded: a refusal's number is not 0
abbrev pub Numbered : {A : Type 0} → Answer A → Type 0
Numbered (accepted a) = Unit
Numbered (refusal n i p) = 1 ≤ n
