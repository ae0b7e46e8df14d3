-- A refusal in document 01's numbers and values, and what a reader's answer has to do with `Read`.
-- Assumes nothing.
use Rattle.std.specs.Prelude.{◌≡◌, ℕ, Option, Some, None, Result, Ok, Err, MatchResult}
use Rattle.meaning.specs.Reading.{Read, got, refused}
use Rattle.meaning.specs.Answer.{Answer, accepted, refusal}
use Rattle.tokens.specs.declared.Reason.{Reason}
use Rattle.tokens.specs.declared.Reason.TheVariants.{WrongByte, BadLabel, LabelAgain, TooDeep, LabelsDiffer, TooManyTrees, ShortSlice, LongText, NoSuchCut, OtherKind, NoRow, NoIndex, NoSuchTree}
use Rattle.tokens.specs.declared.Refusal.{Refusal}

-- a line's number in the refusal list
abbrev pub number_of : Reason → ℕ
number_of WrongByte = 1
number_of BadLabel = 2
number_of LabelAgain = 3
number_of TooDeep = 4
number_of LabelsDiffer = 5
number_of TooManyTrees = 6
number_of ShortSlice = 7
number_of LongText = 8
number_of NoSuchCut = 9
number_of OtherKind = 10
number_of NoRow = 11
number_of NoIndex = 12
number_of NoSuchTree = 13

-- 0 where there is none
abbrev pub line_of : Option Reason → ℕ
line_of None = 0
line_of (Some reason) = number_of reason

-- a refusal is its number, which text and the place
abbrev pub refusal_of : {A : Type 0} → Refusal → Answer A
refusal_of x = refusal (number_of x.reason) x.text x.place

-- what a call answers: its value in document 01's words, or a refusal
abbrev pub answer_of : {T A : Type 0} → (T → A) → Result T Refusal → Answer A
answer_of value (Ok v) = accepted (value v)
answer_of value (Err x) = refusal_of x

-- g accepts a value that is kept, and p is the place behind it
pub record Accepts {A : Type 0} (g : Read A) (p : ℕ) (Keep : A → Type 0) : Type 0 where
  pub value : A
  pub is : g ≡ got value p
  pub keeps : Keep value

-- g is this refusal, of text 0
pub record Refuses {A : Type 0} (g : Read A) (x : Refusal) : Type 0 where
  pub is : g ≡ refused (number_of x.reason) x.place
  pub first : x.text ≡ 0

-- what was read was accepted, kept as `Keep` says, and ends at the place `behind`; a refusal is the answer
abbrev pub ReadsAs : {A T : Type 0} → Read A → (T → ℕ) → (T → A → Type 0) → Result T Refusal → Type 0
ReadsAs g behind Keep r = MatchResult r (λ v. Accepts g (behind v) (Keep v)) (Refuses g)
