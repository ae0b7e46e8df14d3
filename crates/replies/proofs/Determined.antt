-- The promise of each exported function determines its result, both lent numbers and the lent slices at exit.
-- Assumes nothing.
use mathlib.Core.Path.{◌≡◌, refl, sym, ap, ◌∙◌}
use mathlib.Core.List.{List}
use Prim.Native.Nat.{ℕ, zero, suc}
use lib.Ieee.{Float}
use Rattle.meaning.specs.Lists.{bit}
use Rattle.meaning.specs.Answer.{Answer, accepted, refusal, Outcome, Comparison, TableSize, TableMemory, GraphSize, GraphMemory, FirstsMemory, IslandsMemory}
use Rattle.meaning.specs.Copies.{Choice}
use Rattle.meaning.specs.Calls.{PairCall, InterchangeCall, ChoosingCall, IslandsCall}
use Rattle.meaning.specs.Sheet.{SheetCall}
use Rattle.meaning.proofs.Determined.{pair-determined, lists-determined, islands-determined, sheet-call-determined}
use Rattle.holdings.specs.IndexCalls.{AddCall, AskCall, RemoveCall}
use Rattle.holdings.proofs.IndexCalls.{add-determined, ask-determined, remove-determined}
use Rattle.plots.specs.PlotCall.{PlotMemory}
use Rattle.replies.specs.Coded.{coded, text_value, done_value, pair_value, table_value, graph_value, text_coded, plot_coded, done_coded, table_coded, graph_coded, firsts_coded, islands_coded}
use Rattle.replies.specs.declared.Reply.{Reply}

abbrev pub reply : ℕ → ℕ → ℕ → Reply
reply r x y = record { result = r; first = x; second = y }

-- the three numbers of an answer
abbrev numbers : {A : Type 0} → (A → ℕ) → (A → ℕ) → Answer A → Reply
numbers first second (accepted a) = reply 0 (first a) (second a)
numbers first second (refusal n i p) = reply n i p

abbrev text_numbers : Answer ℕ → Reply
text_numbers a = numbers (λ n. n) (λ n. 0) a

abbrev pair_numbers : Answer Comparison → Reply
pair_numbers a = numbers (λ k. bit k.yes) (λ k. k.forests) a

abbrev table_numbers : Answer TableSize → Reply
table_numbers a = numbers (λ k. k.bytes) (λ k. k.trees) a

abbrev graph_numbers : Answer GraphSize → Reply
graph_numbers a = numbers (λ k. k.trees) (λ k. k.pairs) a

-- they are the ones that code it
text-back : (r x y : ℕ) → text_numbers (coded text_value r x y) ≡ reply r x y
text-back zero x zero = refl
text-back zero x (suc y) = refl
text-back (suc r) x y = refl

pair-back : (r x y : ℕ) → pair_numbers (coded pair_value r x y) ≡ reply r x y
pair-back zero zero y = refl
pair-back zero (suc zero) y = refl
pair-back zero (suc (suc x)) y = refl
pair-back (suc r) x y = refl

-- nothing is answered but that it is done
abbrev done_numbers : Answer (Unit {0}) → Reply
done_numbers a = numbers (λ _. 0) (λ _. 0) a

done-back : (r x y : ℕ) → done_numbers (coded done_value r x y) ≡ reply r x y
done-back zero zero zero = refl
done-back zero (suc x) zero = refl
done-back zero x (suc y) = refl
done-back (suc r) x y = refl

table-back : (r x y : ℕ) → table_numbers (coded table_value r x y) ≡ reply r x y
table-back zero x y = refl
table-back (suc r) x y = refl

graph-back : (r x y : ℕ) → graph_numbers (coded graph_value r x y) ≡ reply r x y
graph-back zero x y = refl
graph-back (suc r) x y = refl

module _ {r r' x x' y y' : ℕ} where
  -- the form call and the cut call
  pub text-code-determined : {o : Outcome ℕ (List ℕ)} {out out' : List ℕ} → text_coded r x y out ≡ o → text_coded r' x' y' out' ≡ o → (reply r x y ≡ reply r' x' y') × (out ≡ out')
  text-code-determined e f =
      let h = e ∙ sym f in (
        sym (text-back r x y) ∙ ap (λ (z : Outcome ℕ (List ℕ)). text_numbers z.answer) h ∙ text-back r' x' y',
        ap (λ (z : Outcome ℕ (List ℕ)). z.memory) h,
      )

  pub plot-code-determined : {o : Outcome ℕ PlotMemory} {rows rows' : List Float} {columns columns' : List ℕ}
      → plot_coded r x y rows columns ≡ o → plot_coded r' x' y' rows' columns' ≡ o → (reply r x y ≡ reply r' x' y') × (rows ≡ rows') × (columns ≡ columns')
  plot-code-determined e f =
      let h = e ∙ sym f in (
        sym (text-back r x y) ∙ ap (λ (z : Outcome ℕ PlotMemory). text_numbers z.answer) h ∙ text-back r' x' y',
        ap (λ (z : Outcome ℕ PlotMemory). z.memory.rows) h,
        ap (λ (z : Outcome ℕ PlotMemory). z.memory.columns) h,
      )

  pub sheet-code-determined : {s out o o' : List ℕ} → SheetCall s out (text_coded r x y o) → SheetCall s out (text_coded r' x' y' o') → (reply r x y ≡ reply r' x' y') × (o ≡ o')
  sheet-code-determined e f = text-code-determined (sheet-call-determined e f) refl

  pub index-add-code-determined : {s memory m m' : List ℕ} → AddCall s memory (text_coded r x y m) → AddCall s memory (text_coded r' x' y' m') → (reply r x y ≡ reply r' x' y') × (m ≡ m')
  index-add-code-determined e f = text-code-determined (add-determined e f) refl

  pub index-neighbours-code-determined : {n : ℕ} {memory list l l' : List ℕ} → AskCall n memory list (text_coded r x y l) → AskCall n memory list (text_coded r' x' y' l') → (reply r x y ≡ reply r' x' y') × (l ≡ l')
  index-neighbours-code-determined e f = text-code-determined (ask-determined e f) refl

  pub index-remove-code-determined : {n : ℕ} {memory m m' : List ℕ} → RemoveCall n memory (done_coded r x y m) → RemoveCall n memory (done_coded r' x' y' m') → (reply r x y ≡ reply r' x' y') × (m ≡ m')
  index-remove-code-determined e f =
      let h = remove-determined e f in (
        sym (done-back r x y) ∙ ap (λ (z : Outcome (Unit {0}) (List ℕ)). done_numbers z.answer) h ∙ done-back r' x' y',
        ap (λ (z : Outcome (Unit {0}) (List ℕ)). z.memory) h,
      )

  pub pair-code-determined : {s s' : List ℕ} → PairCall s s' (coded pair_value r x y) → PairCall s s' (coded pair_value r' x' y') → reply r x y ≡ reply r' x' y'
  pair-code-determined e f = sym (pair-back r x y) ∙ ap pair_numbers (pair-determined e f) ∙ pair-back r' x' y'

  pub table-code-determined : {o : Outcome TableSize TableMemory} {texts texts' ends ends' : List ℕ} → table_coded r x y texts ends ≡ o → table_coded r' x' y' texts' ends' ≡ o → (reply r x y ≡ reply r' x' y') × (texts ≡ texts') × (ends ≡ ends')
  table-code-determined e f =
      let h = e ∙ sym f in (
        sym (table-back r x y) ∙ ap (λ (z : Outcome TableSize TableMemory). table_numbers z.answer) h ∙ table-back r' x' y',
        ap (λ (z : Outcome TableSize TableMemory). z.memory.texts) h,
        ap (λ (z : Outcome TableSize TableMemory). z.memory.ends) h,
      )

  pub interchange-code-determined : (s : List ℕ) (memory : GraphMemory) {pairs pairs' counts counts' : List ℕ}
      → InterchangeCall s memory (graph_coded r x y pairs counts) → InterchangeCall s memory (graph_coded r' x' y' pairs' counts')
      → (reply r x y ≡ reply r' x' y') × (pairs ≡ pairs') × (counts ≡ counts')
  interchange-code-determined s memory e f =
      let h = lists-determined e f in (
        sym (graph-back r x y) ∙ ap (λ (z : Outcome GraphSize GraphMemory). graph_numbers z.answer) h ∙ graph-back r' x' y',
        ap (λ (z : Outcome GraphSize GraphMemory). z.memory.pairs) h,
        ap (λ (z : Outcome GraphSize GraphMemory). z.memory.counts) h,
      )

  -- the graph call, with either choice
  pub graph-code-determined : (choice : Choice) (s : List ℕ) (memory : FirstsMemory) {pairs pairs' counts counts' firsts firsts' : List ℕ}
      → ChoosingCall choice s memory (firsts_coded r x y pairs counts firsts) → ChoosingCall choice s memory (firsts_coded r' x' y' pairs' counts' firsts')
      → (reply r x y ≡ reply r' x' y') × (pairs ≡ pairs') × (counts ≡ counts') × (firsts ≡ firsts')
  graph-code-determined choice s memory e f =
      let h = lists-determined e f in (
        sym (graph-back r x y) ∙ ap (λ (z : Outcome GraphSize FirstsMemory). graph_numbers z.answer) h ∙ graph-back r' x' y',
        ap (λ (z : Outcome GraphSize FirstsMemory). z.memory.graph.pairs) h,
        ap (λ (z : Outcome GraphSize FirstsMemory). z.memory.graph.counts) h,
        ap (λ (z : Outcome GraphSize FirstsMemory). z.memory.firsts) h,
      )

  pub islands-code-determined : {s : List ℕ} {memory : IslandsMemory} {pairs pairs' counts counts' firsts firsts' islands islands' : List ℕ}
      → IslandsCall s memory (islands_coded r x y pairs counts firsts islands) → IslandsCall s memory (islands_coded r' x' y' pairs' counts' firsts' islands')
      → (reply r x y ≡ reply r' x' y') × (pairs ≡ pairs') × (counts ≡ counts') × (firsts ≡ firsts') × (islands ≡ islands')
  islands-code-determined e f =
      let h = islands-determined e f in (
        sym (graph-back r x y) ∙ ap (λ (z : Outcome GraphSize IslandsMemory). graph_numbers z.answer) h ∙ graph-back r' x' y',
        ap (λ (z : Outcome GraphSize IslandsMemory). z.memory.lists.graph.pairs) h,
        ap (λ (z : Outcome GraphSize IslandsMemory). z.memory.lists.graph.counts) h,
        ap (λ (z : Outcome GraphSize IslandsMemory). z.memory.lists.firsts) h,
        ap (λ (z : Outcome GraphSize IslandsMemory). z.memory.islands) h,
      )
