-- The promise of each call on an index determines its answer and the lent memory at exit.
-- Assumes nothing.
use mathlib.Core.Path.{◌≡◌, refl, ap}
use mathlib.Core.List.{List}
use Prim.Native.Nat.{ℕ}
use Rattle.meaning.specs.Answer.{Outcome}
use Rattle.std.specs.Prelude.{Result}
use Rattle.tokens.specs.declared.Refusal.{Refusal}
use Rattle.tokens.proofs.Refusals.{answer-one}
use Rattle.holdings.specs.IndexCalls.{AddCall, AskCall, RemoveCall}
use Rattle.holdings.proofs.IndexCalls.{add-determined, ask-determined, remove-determined}
use Rattle.calls.specs.Paper.{text_outcome}
use Rattle.calls.proofs.Determined.{text-determined}
use Rattle.index_calls.specs.Added.{add_answer, add_outcome}
use Rattle.index_calls.specs.Removed.{remove_answer, remove_outcome}

-- an answer is its paper's numbers and values
add-one : (r r' : Result ℕ Refusal) → add_answer r ≡ add_answer r' → r ≡ r'
add-one r r' e = answer-one (λ n. n) (λ n m e. e) r r' e

pub index-add-call-determined : {s memory : List ℕ} (r r' : Result ℕ Refusal) {m m' : List ℕ} → AddCall s memory (add_outcome r m) → AddCall s memory (add_outcome r' m') → (r ≡ r') × (m ≡ m')
index-add-call-determined r r' c d =
    let h = add-determined c d in
    (add-one r r' (ap (λ (x : Outcome ℕ (List ℕ)). x.answer) h), ap (λ (x : Outcome ℕ (List ℕ)). x.memory) h)

pub index-neighbours-call-determined : {x : ℕ} {memory list : List ℕ} {r r' : Result ℕ Refusal} {l l' : List ℕ} → AskCall x memory list (text_outcome r l) → AskCall x memory list (text_outcome r' l') → (r ≡ r') × (l ≡ l')
index-neighbours-call-determined c d = text-determined (ask-determined c d) refl

remove-one : (r r' : Result (Unit {0}) Refusal) → remove_answer r ≡ remove_answer r' → r ≡ r'
remove-one r r' e = answer-one (λ u. u) (λ u v e. e) r r' e

pub index-remove-call-determined : {x : ℕ} {memory : List ℕ} (r r' : Result (Unit {0}) Refusal) {m m' : List ℕ} → RemoveCall x memory (remove_outcome r m) → RemoveCall x memory (remove_outcome r' m') → (r ≡ r') × (m ≡ m')
index-remove-call-determined r r' c d =
    let h = remove-determined c d in
    (remove-one r r' (ap (λ (x : Outcome (Unit {0}) (List ℕ)). x.answer) h), ap (λ (x : Outcome (Unit {0}) (List ℕ)). x.memory) h)
