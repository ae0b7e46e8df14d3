-- The promise of each of these calls determines its answer and the lent memory at exit.
-- Assumes nothing.
use mathlib.Core.Path.{◌≡◌}
use mathlib.Core.List.{List}
use Prim.Native.Nat.{ℕ}
use Rattle.families.specs.RowCalls.{row_call, row_text_call, RowPairCall}
use Rattle.families.proofs.RowPair.{row-pair-determined}
use Rattle.calls.specs.Paper.{text_outcome, pair_answer}
use Rattle.std.specs.Prelude.{Result}
use Rattle.tokens.specs.declared.Refusal.{Refusal}
use Rattle.pairs.specs.declared.Comparison.{Comparison as Told}
use Rattle.calls.proofs.Determined.{text-determined, pair_one}

pub row-call-determined : (s out : List ℕ) {r r' : Result ℕ Refusal} {o o' : List ℕ} → text_outcome r o ≡ row_call s out → text_outcome r' o' ≡ row_call s out → (r ≡ r') × (o ≡ o')
row-call-determined s out e f = text-determined e f

pub row-text-call-determined : (xs out : List ℕ) {r r' : Result ℕ Refusal} {o o' : List ℕ}
    → text_outcome r o ≡ row_text_call xs out → text_outcome r' o' ≡ row_text_call xs out → (r ≡ r') × (o ≡ o')
row-text-call-determined xs out e f = text-determined e f

pub row-pair-call-determined : {xs ys : List ℕ} (r r' : Result Told Refusal) → RowPairCall xs ys (pair_answer r) → RowPairCall xs ys (pair_answer r') → r ≡ r'
row-pair-call-determined r r' h k = pair_one r r' (row-pair-determined h k)
