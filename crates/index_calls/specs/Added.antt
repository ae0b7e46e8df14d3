-- The answers of adding, and what a tree that was read becomes beside the held ones.
-- Assumes nothing.
use Rattle.std.specs.Prelude.{Bool, true, false, List, ℕ, Result}
use Rattle.meaning.specs.Kind.{Kinded}
use Rattle.meaning.specs.Copies.{first_passing}
use Rattle.meaning.specs.Reading.{Read}
use Rattle.meaning.specs.Answer.{Answer, accepted, Outcome, onward, conclude}
use Rattle.holdings.specs.Slots.{Slot, free, held}
use Rattle.holdings.specs.IndexCalls.{joined, add_to}
use Rattle.tokens.specs.Paper.{answer_of}
use Rattle.tokens.specs.declared.Refusal.{Refusal}

-- the tree's number
abbrev pub add_answer : Result ℕ Refusal → Answer ℕ
add_answer r = answer_of (λ n. n) r

-- with the lent memory at exit
abbrev pub add_outcome : Result ℕ Refusal → List ℕ → Outcome ℕ (List ℕ)
add_outcome r memory = record { answer = add_answer r; memory = memory }

-- a number has a tree
abbrev pub is_held : Slot → Bool
is_held free = false
is_held (held t) = true

-- the smallest number that has one; the length where none has
abbrev pub first_held : List Slot → ℕ
first_held hs = first_passing is_held hs

-- what the call gives, where the held trees are hs and this was read
abbrev pub add_joined : List Slot → Read Kinded → List ℕ → Outcome ℕ (List ℕ)
add_joined hs read memory = conclude (onward (joined hs read) λ t. accepted (hs, t)) memory (add_to memory)
