-- The pair call's answer, once its texts are read.
-- Assumes nothing.
use Rattle.std.specs.Prelude.{◌≡◌, true, false, ℕ}
use Rattle.meaning.specs.Kind.{Kinded}
use Rattle.meaning.specs.EitherKind.{ApartAs}
use Rattle.meaning.specs.Compared.{compared_as, comparison}
use Rattle.meaning.specs.Answer.{Answer, accepted, refusal, Comparison}
use Rattle.lent.specs.Runs.{Says}
use Rattle.pairs.specs.declared.Comparison.{Comparison as Told}

-- what is told of two trees of one kind: whether they are one move apart, and how many forests were compared
pub record TestedAs (x y : Kinded) (r : Told) : Type 0 where
  pub apart : Says r.yes (ApartAs x.kind x.tree y.tree)
  pub number : r.forests ≡ compared_as x.kind x.tree y.tree

-- two trees that were accepted are one move apart or not; a refusal stands
pub data Answers : Answer ((x : Kinded) × Kinded) → Answer Comparison → Type 0 where
  stands_apart : (x y : Kinded) → ApartAs x.kind x.tree y.tree → Answers (accepted (x, y)) (accepted (comparison true x y))
  not_apart : (x y : Kinded) → ¬ ApartAs x.kind x.tree y.tree → Answers (accepted (x, y)) (accepted (comparison false x y))
  refuses : (n i p : ℕ) → Answers (refusal n i p) (refusal n i p)
