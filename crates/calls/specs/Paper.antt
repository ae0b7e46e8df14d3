-- The answers of the public calls on one tree, on two, and on the texts of a table, in document 01's numbers and values.
-- Assumes nothing.
use Rattle.std.specs.Prelude.{List, ℕ, Result}
use Rattle.meaning.specs.Answer.{Answer, Outcome, Comparison, TableSize, TableMemory}
use Rattle.tokens.specs.Paper.{answer_of}
use Rattle.tokens.specs.declared.Refusal.{Refusal}
use Rattle.pairs.specs.declared.Comparison.{Comparison as Told}
use Rattle.calls.specs.declared.TableSize.{TableSize as Size}

-- the form call, the cut call and the sheet call: the bytes written
abbrev pub text_answer : Result ℕ Refusal → Answer ℕ
text_answer r = answer_of (λ n. n) r

-- with the lent memory at exit
abbrev pub text_outcome : Result ℕ Refusal → List ℕ → Outcome ℕ (List ℕ)
text_outcome r out = record { answer = text_answer r; memory = out }

-- what a test of two trees told
abbrev pub comparison_of : Told → Comparison
comparison_of told = record { yes = told.yes; forests = told.forests }

-- the pair call: yes or no, and how many forests were compared
abbrev pub pair_answer : Result Told Refusal → Answer Comparison
pair_answer r = answer_of comparison_of r

-- the table call: the bytes written, and the trees
abbrev pub size_of : Size → TableSize
size_of size = record { bytes = size.bytes; trees = size.trees }

abbrev pub table_answer : Result Size Refusal → Answer TableSize
table_answer r = answer_of size_of r

abbrev pub table_outcome : Result Size Refusal → List ℕ → List ℕ → Outcome TableSize TableMemory
table_outcome r texts ends = record { answer = table_answer r; memory = record { texts = texts; ends = ends } }
