-- The answers of removing, and which line stands against a number.
-- Assumes nothing.
use Rattle.std.specs.Prelude.{◌≡◌, Bool, true, false, List, ℕ, Result}
use Rattle.meaning.specs.Answer.{Answer, Outcome}
use Rattle.meaning.specs.Tree.{Tree}
use Rattle.holdings.specs.Slots.{free, held, slot_at}
use Rattle.holdings.specs.Memory.{Valid}
use Rattle.tokens.specs.Paper.{answer_of}
use Rattle.tokens.specs.declared.Refusal.{Refusal}

-- the line by which nothing can be done with the tree of x, in the order of the lines; 0 where it can
pub data Barred (memory : List ℕ) (x : ℕ) : Bool → ℕ → Type 0 where
  short : Barred memory x false 7
  foreign : ¬ Valid memory → Barred memory x true 12
  lacking : (v : Valid memory) → slot_at v.slots x ≡ free → Barred memory x true 13
  fine : (v : Valid memory) (t : Tree) → slot_at v.slots x ≡ held t → Barred memory x true 0

-- it is done, and there is no more to say
abbrev pub remove_answer : Result (Unit {0}) Refusal → Answer (Unit {0})
remove_answer r = answer_of (λ u. u) r

-- with the lent memory at exit
abbrev pub remove_outcome : Result (Unit {0}) Refusal → List ℕ → Outcome (Unit {0}) (List ℕ)
remove_outcome r memory = record { answer = remove_answer r; memory = memory }
