-- The answers of the calls on clades in document 01's numbers and values.
-- Assumes nothing.
use Rattle.std.specs.Prelude.{List, ℕ, Result}
use Rattle.meaning.specs.Answer.{Answer, Outcome}
use Rattle.tokens.specs.Paper.{answer_of}
use Rattle.tokens.specs.declared.Refusal.{Refusal}
use Rattle.families.specs.SupportCall.{SupportSize, SupportMemory}
use Rattle.clade_calls.specs.declared.SupportSize.{SupportSize as Size}

-- the support call: the clades, the bytes, and the trees
abbrev pub size_of : Size → SupportSize
size_of size = record { clades = size.clades; bytes = size.bytes; trees = size.trees }

abbrev pub support_answer : Result Size Refusal → Answer SupportSize
support_answer r = answer_of size_of r

-- its slices
abbrev pub support_memory : List ℕ → List ℕ → List ℕ → SupportMemory
support_memory clades numbers text = record { clades = clades; numbers = numbers; text = text }

-- with the lent memory at exit
abbrev pub support_outcome : Result Size Refusal → List ℕ → List ℕ → List ℕ → Outcome SupportSize SupportMemory
support_outcome r clades numbers text = record { answer = support_answer r; memory = support_memory clades numbers text }
