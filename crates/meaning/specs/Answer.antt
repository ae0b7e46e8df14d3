-- What the calls answer, in document 01's numbers and values, and what they leave in lent memory. In words: docs/RULES.md, 'The calls'.
-- Assumes nothing.
use Rattle.std.specs.Prelude.{Bool, List, ◌++◌, ℕ, length, drop}

-- a value; or a number of the refusal list, which text (0, or 1 for the pair call's second) and the place
pub data Answer (A : Type 0) : Type 0 where
  accepted : A → Answer A
  refusal : (number : ℕ) → (text : ℕ) → (place : ℕ) → Answer A

-- the answer, and the lent memory at exit
pub record Outcome (A M : Type 0) : Type 0 where
  pub answer : Answer A
  pub memory : M

-- what the pair call tells: whether the trees are one move apart, and how many forests were compared
pub record Comparison : Type 0 where
  pub yes : Bool
  pub forests : ℕ

-- how much the table call writes: bytes of text, and trees
pub record TableSize : Type 0 where
  pub bytes : ℕ
  pub trees : ℕ

-- the slices lent to the table call: for the texts, and for the end of each
pub record TableMemory : Type 0 where
  pub texts : List ℕ
  pub ends : List ℕ

-- how much the graph call writes: trees, and pairs
pub record GraphSize : Type 0 where
  pub trees : ℕ
  pub pairs : ℕ

-- the slices lent to the interchange call: for the pairs, and for the neighbour counts
pub record GraphMemory : Type 0 where
  pub pairs : List ℕ
  pub counts : List ℕ

-- the slices lent to the graph call: those, and one for the first position of each topology
pub record FirstsMemory : Type 0 where
  pub graph : GraphMemory
  pub firsts : List ℕ

-- the slices lent to the islands call: the graph call's, and one for the islands' numbers
pub record IslandsMemory : Type 0 where
  pub lists : FirstsMemory
  pub islands : List ℕ

-- a slice with xs written from its start on, and nothing changed behind that
abbrev pub written : {A : Type 0} → List A → List A → List A
written xs slice = xs ++ drop (length xs) slice

-- a text is written: the answer is the number of its bytes
abbrev pub text_of : List ℕ → List ℕ → Outcome ℕ (List ℕ)
text_of xs out = record { answer = accepted (length xs); memory = written xs out }

-- go on with what was accepted; a refusal stands
abbrev pub onward : {A B : Type 0} → Answer A → (A → Answer B) → Answer B
onward (accepted a) next = next a
onward (refusal n i p) next = refusal n i p

-- what is accepted is done; a refusal leaves the memory as it was
abbrev pub conclude : {A B M : Type 0} → Answer A → M → (A → Outcome B M) → Outcome B M
conclude (accepted a) memory done = done a
conclude (refusal n i p) memory done = record { answer = refusal n i p; memory = memory }
