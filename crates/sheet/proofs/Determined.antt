-- What `print_sheet`, `sheet_of` and `print_islands` promise determines the lent memory at exit and the number of bytes.
-- Assumes nothing.
use mathlib.Core.Path.{◌≡◌, sym, ap, ◌∙◌}
use mathlib.Core.List.{List}
use Prim.Native.Nat.{ℕ}
use lib.ListN.{length}
use Rattle.meaning.specs.Kind.{Trees}
use Rattle.meaning.specs.Answer.{written}
use Rattle.meaning.specs.Sheet.{SheetOf}
use Rattle.meaning.specs.IslandSheet.{IslandSheetOf}
use Rattle.meaning.proofs.Determined.{sheet-determined, island-sheet-determined}
use Rattle.sheet.specs.Printed.{Printed}

-- where the bytes are the same
printed-same : {Prints : Trees → List ℕ → Type 0} {s out o₁ o₂ : List ℕ} {r₁ r₂ : ℕ} (p : Printed Prints s out o₁ r₁) (q : Printed Prints s out o₂ r₂)
    → p.bytes ≡ q.bytes → (o₁ ≡ o₂) × (r₁ ≡ r₂)
printed-same {out} p q same = (
  p.memory ∙ ap (λ (x : List ℕ). written x out) same ∙ sym q.memory,
  p.many ∙ ap length same ∙ sym q.many,
)

pub printed-determined : {s out o₁ o₂ : List ℕ} {r₁ r₂ : ℕ} → Printed SheetOf s out o₁ r₁ → Printed SheetOf s out o₂ r₂ → (o₁ ≡ o₂) × (r₁ ≡ r₂)
printed-determined p q = printed-same p q (sheet-determined p.prints q.prints)

pub islands-printed-determined : {s out o₁ o₂ : List ℕ} {r₁ r₂ : ℕ} → Printed IslandSheetOf s out o₁ r₁ → Printed IslandSheetOf s out o₂ r₂ → (o₁ ≡ o₂) × (r₁ ≡ r₂)
islands-printed-determined p q = printed-same p q (island-sheet-determined p.prints q.prints)
