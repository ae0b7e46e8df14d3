-- What reading a mark answers.
-- Assumes nothing.
use Rattle.std.specs.Prelude.{◌≡◌, List, ℕ, Result}
use Rattle.meaning.specs.Kind.{Kind}
use Rattle.meaning.specs.Reading.{Read, got, exactly}
use Rattle.held.specs.Kept.{kind_of}
use Rattle.tokens.specs.Paper.{ReadsAs}
use Rattle.tokens.specs.declared.Refusal.{Refusal}
use Rattle.tokens.specs.declared.marks.Mark.{Mark}

-- the byte b alone, with no blank before it
abbrev pub exactly_at : ℕ → List ℕ → ℕ → Read (Unit {0})
exactly_at b s p = exactly b s p (λ q. got tt q)

-- of a mark the kind is kept
abbrev pub MarkMeets : Read Kind → Result Mark Refusal → Type 0
MarkMeets g r = ReadsAs g (λ mark. mark.behind) (λ mark k. kind_of mark.kind ≡ k) r
