-- What a call reads of its text, once its lent slices are measured.
-- Assumes nothing.
use Rattle.std.specs.Prelude.{◌≡◌, Bool, true, false, cond, ℕ, ltb, Result, MatchResult}
use Rattle.meaning.specs.Limits.{text_bytes}
use Rattle.meaning.specs.Kind.{Kinded, Trees}
use Rattle.meaning.specs.Answer.{Answer, accepted}
use Rattle.held.specs.Kept.{KeepsTrees}
use Rattle.held.specs.declared.Table.{Table}
use Rattle.tokens.specs.Paper.{refusal_of}
use Rattle.tokens.specs.declared.Refusal.{Refusal}
use Rattle.reading.specs.Whole.{Reads}
use Rattle.reading.specs.declared.TreeRead.{TreeRead}

-- the line for which a call reads nothing of a text of so many bytes: 7 where it is not lent enough, 8 where the text is too long; 0 where it reads
abbrev pub withheld : Bool → ℕ → ℕ
withheld false bytes = 7
withheld true bytes = cond (ltb text_bytes bytes) 8 0

-- a accepts a value that is kept
pub record Given {A : Type 0} (a : Answer A) (Keep : A → Type 0) : Type 0 where
  pub value : A
  pub is : a ≡ accepted value
  pub keeps : Keep value

-- what was accepted is kept as `Keep` says; a refusal is the answer
abbrev pub AnswersAs : {A T : Type 0} → Answer A → (T → A → Type 0) → Result T Refusal → Type 0
AnswersAs a Keep r = MatchResult r (λ v. Given a (Keep v)) (λ x. a ≡ refusal_of x)

-- of a tree: it is kept, and has so many nodes
abbrev pub TreeLent : Answer Kinded → Result TreeRead Refusal → Type 0
TreeLent a r = AnswersAs a Reads r

-- of a table: its trees are kept
abbrev pub TableLent : Answer Trees → Result Table Refusal → Type 0
TableLent a r = AnswersAs a KeepsTrees r
