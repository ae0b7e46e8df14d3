-- A refusal, and a call's answer, is told by document 01's numbers and values.
-- Assumes nothing.
use mathlib.Core.Path.{◌≡◌, refl, sym, ap, ◌∙◌}
use mathlib.Core.List.{[], ◌∷◌}
use Prim.Native.Nat.{ℕ}
use lib.ListN.{get_or}
use Rattle.std.specs.Prelude.{Result, Ok, Err}
use Rattle.meaning.specs.Answer.{Answer}
use Rattle.meaning.proofs.Logic.{clash}
use Rattle.tokens.specs.Paper.{number_of, refusal_of, answer_of}
use Rattle.tokens.specs.declared.Reason.{Reason}
use Rattle.tokens.specs.declared.Reason.TheVariants.{WrongByte, BadLabel, LabelAgain, TooDeep, LabelsDiffer, TooManyTrees, ShortSlice, LongText, NoSuchCut, OtherKind, NoRow, NoIndex, NoSuchTree}
use Rattle.tokens.specs.declared.Refusal.{Refusal}

-- the line with a number
abbrev reason_of : ℕ → Reason
reason_of n =
    get_or (WrongByte ∷ WrongByte ∷ BadLabel ∷ LabelAgain ∷ TooDeep ∷ LabelsDiffer ∷ TooManyTrees ∷ ShortSlice ∷ LongText ∷ NoSuchCut ∷ OtherKind ∷ NoRow ∷ NoIndex ∷ NoSuchTree ∷ []) n WrongByte

reason-number : (x : Reason) → reason_of (number_of x) ≡ x
reason-number WrongByte = refl
reason-number BadLabel = refl
reason-number LabelAgain = refl
reason-number TooDeep = refl
reason-number LabelsDiffer = refl
reason-number TooManyTrees = refl
reason-number ShortSlice = refl
reason-number LongText = refl
reason-number NoSuchCut = refl
reason-number OtherKind = refl
reason-number NoRow = refl
reason-number NoIndex = refl
reason-number NoSuchTree = refl

pub reason-one : {x y : Reason} → number_of x ≡ number_of y → x ≡ y
reason-one {x} {y} e = sym (reason-number x) ∙ ap reason_of e ∙ reason-number y

-- refusals of the same line, text and place are the same
same-fields : {n m : Reason} {i j p q : ℕ} → n ≡ m → i ≡ j → p ≡ q → ◌≡◌ {A = Refusal} (record { reason = n; text = i; place = p }) (record { reason = m; text = j; place = q })
same-fields e f g = rw (e, f, g)

pub refusal-one : {A : Type 0} {x y : Refusal} → ◌≡◌ {A = Answer A} (refusal_of x) (refusal_of y) → x ≡ y
refusal-one e = same-fields (reason-one (cc)) (cc) (cc)

-- and answers of the same value, where a value is told by its words
pub answer-one : {T A : Type 0} (value : T → A) → ((v w : T) → value v ≡ value w → v ≡ w) → (r r' : Result T Refusal) → answer_of value r ≡ answer_of value r' → r ≡ r'
answer-one value one (Ok v) (Ok w) e = ap Ok (one v w (cc))
answer-one value one (Ok v) (Err y) e = clash cc
answer-one value one (Err x) (Ok w) e = clash cc
answer-one value one (Err x) (Err y) e = ap Err (refusal-one e)
