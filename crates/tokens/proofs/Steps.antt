-- What an answer that reads as `Read` does says: what follows what was accepted, and that a refusal stands; and what a line behind a tree does.
-- Assumes nothing.
use mathlib.Core.Path.{◌≡◌, refl, ap, ◌∙◌}
use Rattle.std.specs.Prelude.{Result, Err, MatchResult, IsErrAnd}
use Rattle.std.proofs.lemmas.Result.{err_from_is_err_and}
use Prim.Native.Nat.{ℕ, zero, suc, ◌-◌, ◌≤◌}
use native.Mathlib.Omega.{arith}
use Rattle.meaning.specs.Reading.{Read, got, refused, and_then, or_differs}
use Rattle.tokens.specs.Paper.{number_of, Refuses}
use Rattle.tokens.specs.declared.Reason.{Reason}
use Rattle.tokens.specs.declared.Reason.TheVariants.{WrongByte, BadLabel, LabelAgain, TooDeep, LabelsDiffer, TooManyTrees, ShortSlice, LongText, NoSuchCut, OtherKind, NoRow, NoIndex, NoSuchTree}
use Rattle.tokens.specs.declared.Refusal.{Refusal}

-- what a `?` returns on a refusal
pub err-is : {T E : Type 0} (r : Result T E) {x : E} → IsErrAnd r (λ y. y ≡ x) → r ≡ Err x
err-is r h = let p = err_from_is_err_and r h in p.1 ∙ ap Err p.2

pub err-exit : {T E : Type 0} (P : T → Type 0) (Q : E → Type 0) (r : Result T E) {x : E} → IsErrAnd r (λ y. y ≡ x) → Q x → MatchResult r P Q
err-exit P Q r h q = rw (err-is r h) q

-- what follows what was read
pub then-got : {A B : Type 0} {g : Read A} {x : A} {p : ℕ} (next : A → ℕ → Read B) → g ≡ got x p → and_then g next ≡ next x p
then-got next e = rw e

-- a refusal stands
pub then-refused : {A B : Type 0} {g : Read A} {x : Refusal} (next : A → ℕ → Read B) → Refuses g x → Refuses (and_then g next) x
then-refused next r = record { is = rw r.is refl; first = r.first }

-- no line has the number 0
pub numbered : (reason : Reason) → 1 ≤ number_of reason
numbered WrongByte = omega arith
numbered BadLabel = omega arith
numbered LabelAgain = omega arith
numbered TooDeep = omega arith
numbered LabelsDiffer = omega arith
numbered TooManyTrees = omega arith
numbered ShortSlice = omega arith
numbered LongText = omega arith
numbered NoSuchCut = omega arith
numbered OtherKind = omega arith
numbered NoRow = omega arith
numbered NoIndex = omega arith
numbered NoSuchTree = omega arith

-- a line that says why a tree can't stand there ends reading at its `;`, and without one it goes on
pub differs-ends : {A : Type 0} (n p : ℕ) (next : Read A) → 1 ≤ n → or_differs n p next ≡ refused n (p - 1)
differs-ends zero p next h = absurd (omega (arith, h))
differs-ends (suc n) p next h = refl

pub differs_none : {A : Type 0} (n p : ℕ) (next : Read A) → n ≡ 0 → or_differs n p next ≡ next
differs_none n p next h = rw h
