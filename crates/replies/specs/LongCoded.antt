-- The answers of the exported calls on clades: the result and the three lent numbers at exit, as document 01's values.
-- Assumes nothing.
use Rattle.std.specs.Prelude.{List, ℕ, zero, suc}
use Rattle.meaning.specs.Answer.{Answer, accepted, refusal, Outcome}
use Rattle.families.specs.SupportCall.{SupportSize, SupportMemory}

-- the support call: result 0, the clades, the bytes and the trees; else the refusal's number, which text, the place, and 0
abbrev pub support_value : ℕ → ℕ → ℕ → ℕ → Answer SupportSize
support_value zero x y z = accepted (record { clades = x; bytes = y; trees = z })
support_value (suc n) x y zero = refusal (suc n) x y
support_value (suc n) x y (suc z) = refusal 0 x y

-- with the lent memory at exit
abbrev pub support_coded : ℕ → ℕ → ℕ → ℕ → List ℕ → List ℕ → List ℕ → Outcome SupportSize SupportMemory
support_coded r x y z clades numbers text = record { answer = support_value r x y z; memory = record { clades = clades; numbers = numbers; text = text } }
