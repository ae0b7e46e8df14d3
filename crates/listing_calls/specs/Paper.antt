-- The answers of the public calls that list pairs in document 01's numbers and values.
-- Assumes nothing.
use Rattle.std.specs.Prelude.{List, ℕ, Result}
use Rattle.meaning.specs.Answer.{Answer, Outcome, GraphSize, GraphMemory, FirstsMemory, IslandsMemory}
use Rattle.tokens.specs.Paper.{answer_of}
use Rattle.tokens.specs.declared.Refusal.{Refusal}
use Rattle.listing_calls.specs.declared.GraphSize.{GraphSize as Size}

-- the calls that list pairs: the trees, and the pairs
abbrev pub size_of : Size → GraphSize
size_of size = record { trees = size.trees; pairs = size.pairs }

abbrev pub graph_answer : Result Size Refusal → Answer GraphSize
graph_answer r = answer_of size_of r

abbrev pub graph_outcome : Result Size Refusal → List ℕ → List ℕ → Outcome GraphSize GraphMemory
graph_outcome r pairs counts = record { answer = graph_answer r; memory = record { pairs = pairs; counts = counts } }

-- the graph call, with the first positions
abbrev pub first_slices : List ℕ → List ℕ → List ℕ → FirstsMemory
first_slices pairs counts firsts = record { graph = record { pairs = pairs; counts = counts }; firsts = firsts }

abbrev pub firsts_outcome : Result Size Refusal → List ℕ → List ℕ → List ℕ → Outcome GraphSize FirstsMemory
firsts_outcome r pairs counts firsts = record { answer = graph_answer r; memory = first_slices pairs counts firsts }

-- the islands call, with one slice more
abbrev pub island_slices : List ℕ → List ℕ → List ℕ → List ℕ → IslandsMemory
island_slices pairs counts firsts islands = record { lists = first_slices pairs counts firsts; islands = islands }

abbrev pub islands_outcome : Result Size Refusal → List ℕ → List ℕ → List ℕ → List ℕ → Outcome GraphSize IslandsMemory
islands_outcome r pairs counts firsts islands = record { answer = graph_answer r; memory = island_slices pairs counts firsts islands }
