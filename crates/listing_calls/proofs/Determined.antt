-- The promise of each of these calls determines its answer and the lent memory at exit.
-- Assumes nothing.
use mathlib.Core.Path.{◌≡◌, refl, ap}
use mathlib.Core.List.{List}
use Prim.Native.Nat.{ℕ}
use Rattle.meaning.specs.Answer.{Outcome, GraphSize, GraphMemory, FirstsMemory, IslandsMemory}
use Rattle.meaning.specs.Calls.{InterchangeCall, ChoosingCall, IslandsCall}
use Rattle.meaning.specs.Copies.{Choice}
use Rattle.meaning.specs.Sheet.{SheetCall}
use Rattle.meaning.proofs.Determined.{lists-determined, islands-determined, sheet-call-determined as sheet-determined}
use Rattle.std.specs.Prelude.{Result}
use Rattle.tokens.specs.declared.Refusal.{Refusal}
use Rattle.tokens.proofs.Refusals.{answer-one}
use Rattle.calls.specs.Paper.{text_outcome}
use Rattle.calls.proofs.Determined.{text-determined}
use Rattle.listing_calls.specs.Paper.{size_of, graph_answer, graph_outcome, firsts_outcome, islands_outcome}
use Rattle.listing_calls.specs.declared.GraphSize.{GraphSize as Size}

-- the sheet call
pub sheet-call-determined : (s out : List ℕ) {r r' : Result ℕ Refusal} {o o' : List ℕ} → SheetCall s out (text_outcome r o) → SheetCall s out (text_outcome r' o') → (r ≡ r') × (o ≡ o')
sheet-call-determined s out e f = text-determined (sheet-determined e f) refl

-- the calls that list pairs
size-one : (x y : Size) → size_of x ≡ size_of y → x ≡ y
size-one x y e = record-of (ap (λ (z : GraphSize). z.trees) e) (ap (λ (z : GraphSize). z.pairs) e)
  where
    record-of : {n m k j : ℕ} → n ≡ m → k ≡ j → ◌≡◌ {A = Size} (record { trees = n; pairs = k }) (record { trees = m; pairs = j })
    record-of e f = rw (e, f)

pub graph-one : (r r' : Result Size Refusal) → graph_answer r ≡ graph_answer r' → r ≡ r'
graph-one r r' e = answer-one size_of size-one r r' e

pub interchange-call-determined : (s : List ℕ) (memory : GraphMemory) (r r' : Result Size Refusal) {pairs pairs' counts counts' : List ℕ}
    → InterchangeCall s memory (graph_outcome r pairs counts) → InterchangeCall s memory (graph_outcome r' pairs' counts') → (r ≡ r') × (pairs ≡ pairs') × (counts ≡ counts')
interchange-call-determined s memory r r' e f =
    let h = lists-determined e f in (
      graph-one r r' (ap (λ (x : Outcome GraphSize GraphMemory). x.answer) h),
      ap (λ (x : Outcome GraphSize GraphMemory). x.memory.pairs) h,
      ap (λ (x : Outcome GraphSize GraphMemory). x.memory.counts) h,
    )

-- the graph call, with either choice
pub graph-call-determined : (choice : Choice) (s : List ℕ) (memory : FirstsMemory) (r r' : Result Size Refusal) {pairs pairs' counts counts' firsts firsts' : List ℕ}
    → ChoosingCall choice s memory (firsts_outcome r pairs counts firsts) → ChoosingCall choice s memory (firsts_outcome r' pairs' counts' firsts')
    → (r ≡ r') × (pairs ≡ pairs') × (counts ≡ counts') × (firsts ≡ firsts')
graph-call-determined choice s memory r r' e f =
    let h = lists-determined e f in (
      graph-one r r' (ap (λ (x : Outcome GraphSize FirstsMemory). x.answer) h),
      ap (λ (x : Outcome GraphSize FirstsMemory). x.memory.graph.pairs) h,
      ap (λ (x : Outcome GraphSize FirstsMemory). x.memory.graph.counts) h,
      ap (λ (x : Outcome GraphSize FirstsMemory). x.memory.firsts) h,
    )

-- the islands call
pub islands-call-determined : (s : List ℕ) (memory : IslandsMemory) (r r' : Result Size Refusal) {pairs pairs' counts counts' firsts firsts' islands islands' : List ℕ}
    → IslandsCall s memory (islands_outcome r pairs counts firsts islands) → IslandsCall s memory (islands_outcome r' pairs' counts' firsts' islands')
    → (r ≡ r') × (pairs ≡ pairs') × (counts ≡ counts') × (firsts ≡ firsts') × (islands ≡ islands')
islands-call-determined s memory r r' e f =
    let h = islands-determined e f in (
      graph-one r r' (ap (λ (x : Outcome GraphSize IslandsMemory). x.answer) h),
      ap (λ (x : Outcome GraphSize IslandsMemory). x.memory.lists.graph.pairs) h,
      ap (λ (x : Outcome GraphSize IslandsMemory). x.memory.lists.graph.counts) h,
      ap (λ (x : Outcome GraphSize IslandsMemory). x.memory.lists.firsts) h,
      ap (λ (x : Outcome GraphSize IslandsMemory). x.memory.islands) h,
    )
