-- The promise of a call on clades determines its answer and the lent memory at exit.
-- Assumes nothing.
use mathlib.Core.Path.{◌≡◌, sym, ap, ◌∙◌}
use mathlib.Core.List.{List}
use Prim.Native.Nat.{ℕ}
use Rattle.std.specs.Prelude.{Result}
use Rattle.meaning.specs.Answer.{Outcome}
use Rattle.tokens.specs.declared.Refusal.{Refusal}
use Rattle.tokens.proofs.Refusals.{answer-one}
use Rattle.families.specs.SupportCall.{SupportSize, SupportMemory, support_call}
use Rattle.clade_calls.specs.Paper.{size_of, support_answer, support_outcome}
use Rattle.clade_calls.specs.declared.SupportSize.{SupportSize as Size}

-- an answer is its paper's numbers
size-one : (x y : Size) → size_of x ≡ size_of y → x ≡ y
size-one x y e = record-of (ap (λ (z : SupportSize). z.clades) e) (ap (λ (z : SupportSize). z.bytes) e) (ap (λ (z : SupportSize). z.trees) e)
  where
    record-of : {n n' m m' k k' : ℕ} → n ≡ n' → m ≡ m' → k ≡ k' → ◌≡◌ {A = Size} (record { clades = n; bytes = m; trees = k }) (record { clades = n'; bytes = m'; trees = k' })
    record-of e f g = rw (e, f, g)

pub support-one : (r r' : Result Size Refusal) → support_answer r ≡ support_answer r' → r ≡ r'
support-one r r' e = answer-one size_of size-one r r' e

-- the support call
pub support-call-determined : (s : List ℕ) (memory : SupportMemory) (r r' : Result Size Refusal) {clades clades' numbers numbers' text text' : List ℕ}
    → support_outcome r clades numbers text ≡ support_call s memory → support_outcome r' clades' numbers' text' ≡ support_call s memory
    → (r ≡ r') × (clades ≡ clades') × (numbers ≡ numbers') × (text ≡ text')
support-call-determined s memory r r' e f =
    let h = e ∙ sym f in (
      support-one r r' (ap (λ (x : Outcome SupportSize SupportMemory). x.answer) h),
      ap (λ (x : Outcome SupportSize SupportMemory). x.memory.clades) h,
      ap (λ (x : Outcome SupportSize SupportMemory). x.memory.numbers) h,
      ap (λ (x : Outcome SupportSize SupportMemory). x.memory.text) h,
    )
