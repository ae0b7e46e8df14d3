-- The promise of each of these calls determines its answer and the lent memory at exit.
-- Assumes nothing.
use mathlib.Core.Path.{◌≡◌, sym, ap, ◌∙◌}
use mathlib.Core.Bool.{Bool}
use mathlib.Core.List.{List}
use Prim.Native.Nat.{ℕ}
use Rattle.std.specs.Prelude.{Result}
use Rattle.meaning.specs.Answer.{Outcome, Comparison, TableSize, TableMemory}
use Rattle.meaning.specs.Calls.{form_call, cut_call, PairCall, table_call}
use Rattle.meaning.proofs.Determined.{pair-determined}
use Rattle.tokens.specs.declared.Refusal.{Refusal}
use Rattle.tokens.proofs.Refusals.{answer-one}
use Rattle.pairs.specs.declared.Comparison.{Comparison as Told}
use Rattle.calls.specs.Paper.{text_answer, text_outcome, comparison_of, pair_answer, size_of, table_answer, table_outcome}
use Rattle.calls.specs.declared.TableSize.{TableSize as Size}

-- an answer is its paper's numbers and values
pub text-one : (r r' : Result ℕ Refusal) → text_answer r ≡ text_answer r' → r ≡ r'
text-one r r' e = answer-one (λ n. n) (λ n m e. e) r r' e

-- two outcomes that one outcome of the definition allows are the same
pub text-determined : {o : Outcome ℕ (List ℕ)} {r r' : Result ℕ Refusal} {out out' : List ℕ} → text_outcome r out ≡ o → text_outcome r' out' ≡ o → (r ≡ r') × (out ≡ out')
text-determined {r} {r'} e f =
    let h = e ∙ sym f in
    (text-one r r' (ap (λ (x : Outcome ℕ (List ℕ)). x.answer) h), ap (λ (x : Outcome ℕ (List ℕ)). x.memory) h)

pub form-call-determined : (s out : List ℕ) {r r' : Result ℕ Refusal} {o o' : List ℕ} → text_outcome r o ≡ form_call s out → text_outcome r' o' ≡ form_call s out → (r ≡ r') × (o ≡ o')
form-call-determined s out e f = text-determined e f

pub cut-call-determined : (s : List ℕ) (c : ℕ) (out : List ℕ) {r r' : Result ℕ Refusal} {o o' : List ℕ} → text_outcome r o ≡ cut_call s c out → text_outcome r' o' ≡ cut_call s c out → (r ≡ r') × (o ≡ o')
cut-call-determined s c out e f = text-determined e f

-- the table call
size-one : (x y : Size) → size_of x ≡ size_of y → x ≡ y
size-one x y e = record-of (ap (λ (z : TableSize). z.bytes) e) (ap (λ (z : TableSize). z.trees) e)
  where
    record-of : {n m k j : ℕ} → n ≡ m → k ≡ j → ◌≡◌ {A = Size} (record { bytes = n; trees = k }) (record { bytes = m; trees = j })
    record-of e f = rw (e, f)

pub table-one : (r r' : Result Size Refusal) → table_answer r ≡ table_answer r' → r ≡ r'
table-one r r' e = answer-one size_of size-one r r' e

pub table-call-determined : (s : List ℕ) (memory : TableMemory) {r r' : Result Size Refusal} {texts texts' ends ends' : List ℕ} → table_outcome r texts ends ≡ table_call s memory → table_outcome r' texts' ends' ≡ table_call s memory → (r ≡ r') × (texts ≡ texts') × (ends ≡ ends')
table-call-determined s memory {r} {r'} e f =
    let h = e ∙ sym f in (
      table-one r r' (ap (λ (x : Outcome TableSize TableMemory). x.answer) h),
      ap (λ (x : Outcome TableSize TableMemory). x.memory.texts) h,
      ap (λ (x : Outcome TableSize TableMemory). x.memory.ends) h,
    )

-- the pair call
comparison-one : (x y : Told) → comparison_of x ≡ comparison_of y → x ≡ y
comparison-one x y e = record-of (ap (λ (z : Comparison). z.yes) e) (ap (λ (z : Comparison). z.forests) e)
  where
    record-of : {b c : Bool} {n m : ℕ} → b ≡ c → n ≡ m → ◌≡◌ {A = Told} (record { yes = b; forests = n }) (record { yes = c; forests = m })
    record-of e f = rw (e, f)

pub pair_one : (r r' : Result Told Refusal) → pair_answer r ≡ pair_answer r' → r ≡ r'
pair_one r r' e = answer-one comparison_of comparison-one r r' e

pub pair-call-determined : {s s' : List ℕ} (r r' : Result Told Refusal) → PairCall s s' (pair_answer r) → PairCall s s' (pair_answer r') → r ≡ r'
pair-call-determined r r' h k = pair_one r r' (pair-determined h k)
