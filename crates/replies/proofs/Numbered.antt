-- No call gives a refusal of number 0, so result 0 is left for what is accepted.
-- Assumes nothing.
use mathlib.Core.Path.{◌≡◌, sym, subst}
use mathlib.Core.List.{List, Memᴰ}
use Prim.Native.Nat.{ℕ, ◌≤◌}
use lib.Dec.{T, leb, leb→le}
use Rattle.meaning.specs.Lists.{every}
use Rattle.meaning.specs.Tree.{Tree, form}
use Rattle.meaning.specs.Kind.{Trees}
use Rattle.meaning.specs.EitherKind.{form_as}
use Rattle.meaning.specs.Move.{cut_at, forest}
use Rattle.meaning.specs.Answer.{Answer, Outcome, Comparison, TableMemory, GraphSize, GraphMemory, FirstsMemory, IslandsMemory, text_of, conclude}
use Rattle.meaning.specs.Calls.{form_call, cut_call, PairCall, stands_apart, not_apart, table_of, table_call, Lists, lists, InterchangeCall, ChoosingCall, IslandsCall, numbers}
use Rattle.meaning.specs.Copies.{Choice}
use Rattle.meaning.specs.Listing.{Pair}
use Rattle.meaning.specs.Sheet.{SheetCall, gives}
use Rattle.meaning.proofs.Calls.{Tells, accepts, denies, tells-refusal, form-tells, cut-tells, pair-tells, table-call-tells, graph-tells, firsts-tells, islands-tells, sheet-call-tells}
use Rattle.meaning.proofs.Lists.{every-mem}
use Rattle.families.specs.SupportCall.{SupportMemory, support_of, support_call}
use Rattle.families.specs.Row.{row}
use Rattle.families.specs.RowCalls.{row_call, row_text_call, RowPairCall}
use Rattle.families.proofs.SupportCall.{support-tells}
use Rattle.families.proofs.RowCalls.{row-tells, row-text-tells}
use Rattle.families.proofs.RowPair.{rows-tells, rows-line}
use Rattle.plots.specs.PlotCall.{PlotMemory, plot_of, plot_call}
use Rattle.plots.proofs.PlotCall.{plot-tells}
use Rattle.holdings.specs.IndexCalls.{add_to, AddCall, adds, AskCall, remove_from, RemoveCall, removes}
use Rattle.holdings.proofs.IndexCalls.{add-tells, ask-tells, remove-tells}
use Rattle.replies.specs.Coded.{Numbered}

-- 0 is none of the lines
from_one : {n : ℕ} {lines : List ℕ} → T (every (leb 1) lines) → Memᴰ n lines → 1 ≤ n
from_one {n} t m = leb→le 1 n (every-mem (leb 1) t m)

-- what is accepted is answered by a value, and a refusal stands
module _ {A B M : Type 0} {P : A → Type 0} {Q : ℕ → ℕ → ℕ → Type 0} where
  concluded : {a : Answer A} (memory : M) (done : A → Outcome B M) → Tells P Q a → ((n i p : ℕ) → Q n i p → 1 ≤ n) → ((x : A) → Numbered (done x).answer) → Numbered (conclude a memory done).answer
  concluded memory done (accepts h) line value = value _
  concluded memory done (denies h) line value = line _ _ _ h

pub form-numbered : (s out : List ℕ) → Numbered (form_call s out).answer
form-numbered s out = concluded out (λ x. text_of (form_as x.kind x.tree) out) (form-tells s out) (λ n i p l. from_one tt l.number) (λ x. tt)

pub cut-numbered : (s : List ℕ) (c : ℕ) (out : List ℕ) → Numbered (cut_call s c out).answer
cut-numbered s c out = concluded out (λ t. text_of (forest (cut_at t c)) out) (cut-tells s c out) (λ n i p l. from_one tt l.number) (λ t. tt)

pub table-numbered : (s : List ℕ) (memory : TableMemory) → Numbered (table_call s memory).answer
table-numbered s memory = concluded memory (λ table. table_of table memory) (table-call-tells s memory) (λ n i p l. from_one tt l.number) (λ table. tt)

pub support-numbered : (s : List ℕ) (memory : SupportMemory) → Numbered (support_call s memory).answer
support-numbered s memory = concluded memory (λ table. support_of table.trees memory) (support-tells s memory) (λ n i p l. from_one tt l.number) (λ table. tt)

pub row-numbered : (s out : List ℕ) → Numbered (row_call s out).answer
row-numbered s out = concluded out (λ x. text_of (row x.tree) out) (row-tells s out) (λ n i p l. from_one tt l.number) (λ x. tt)

pub row-text-numbered : (xs out : List ℕ) → Numbered (row_text_call xs out).answer
row-text-numbered xs out = concluded out (λ t. text_of (form t) out) (row-text-tells xs out) (λ n i p l. from_one tt l.number) (λ t. tt)

pub row-pair-numbered : {xs ys : List ℕ} {a : Answer Comparison} → RowPairCall xs ys a → Numbered a
row-pair-numbered (RowPairCall.stands_apart t u e h) = tt
row-pair-numbered (RowPairCall.not_apart t u e h) = tt
row-pair-numbered {xs} {ys} (RowPairCall.refuses n i p e) = from_one tt (rows-line (tells-refusal (rows-tells xs ys) e))

pub plot-numbered : (s : List ℕ) (memory : PlotMemory) → Numbered (plot_call s memory).answer
plot-numbered s memory = concluded memory (λ x. plot_of x.tree memory) (plot-tells s memory) (λ n i p l. from_one tt l.number) (λ x. tt)

pub pair-numbered : {s s' : List ℕ} {a : Answer Comparison} → PairCall s s' a → Numbered a
pair-numbered (stands_apart x y e h) = tt
pair-numbered (not_apart x y e h) = tt
pair-numbered {s} {s'} (PairCall.refuses n i p e) = from_one tt (tells-refusal (pair-tells s s') e).number

-- a call that lists pairs, of what it reads
lists-numbered : {M : Type 0} {P : Trees → Type 0} {Q : ℕ → ℕ → ℕ → Type 0} {read : Answer Trees} {Linked : Trees → ℕ → ℕ → Type 0}
    {left : List Tree → List Pair → Outcome GraphSize M} {memory : M} {o : Outcome GraphSize M}
    → ((ts : List Tree) (ps : List Pair) → Numbered (left ts ps).answer) → Tells P Q read → ((n i p : ℕ) → Q n i p → 1 ≤ n) → Lists read Linked left memory o → Numbered o.answer
lists-numbered value tells line (lists table ps e L) = value table.trees ps
lists-numbered value tells line (Lists.refuses n i p e) = line n i p (tells-refusal tells e)

pub interchange-numbered : (s : List ℕ) (memory : GraphMemory) {o : Outcome GraphSize GraphMemory} → InterchangeCall s memory o → Numbered o.answer
interchange-numbered s memory h = lists-numbered (λ ts ps. tt) (graph-tells s memory) (λ n i p l. from_one tt l.number) h

pub graph-numbered : (choice : Choice) (s : List ℕ) (memory : FirstsMemory) {o : Outcome GraphSize FirstsMemory} → ChoosingCall choice s memory o → Numbered o.answer
graph-numbered choice s memory h = lists-numbered (λ ts ps. tt) (firsts-tells s memory) (λ n i p l. from_one tt l.number) h

pub islands-numbered : {s : List ℕ} {memory : IslandsMemory} {o : Outcome GraphSize IslandsMemory} → IslandsCall s memory o → Numbered o.answer
islands-numbered (numbers table ps ms e L I) = tt
islands-numbered {s} {memory} (IslandsCall.refuses n i p e) = from_one tt (tells-refusal (islands-tells s memory) e).number

pub sheet-numbered : {s out : List ℕ} {o : Outcome ℕ (List ℕ)} → SheetCall s out o → Numbered o.answer
sheet-numbered {out} (gives x h) = concluded out (λ y. text_of y out) (sheet-call-tells x out) (λ n i p l. from_one tt l.number) (λ y. tt)

pub add-numbered : {s memory : List ℕ} {o : Outcome ℕ (List ℕ)} → AddCall s memory o → Numbered o.answer
add-numbered {s} {memory} (adds a A) = concluded memory (add_to memory) (add-tells s memory a A) (λ n i p l. from_one tt l.number) (λ r. tt)

pub ask-numbered : {x : ℕ} {memory list : List ℕ} {o : Outcome ℕ (List ℕ)} → AskCall x memory list o → Numbered o.answer
ask-numbered (AskCall.lists hs ys a A e N) = tt
ask-numbered {x} {memory} {list} (AskCall.refuses n i p a A e) = from_one tt (tells-refusal (ask-tells x memory list a A) e).number

pub remove-numbered : {x : ℕ} {memory : List ℕ} {o : Outcome (Unit {0}) (List ℕ)} → RemoveCall x memory o → Numbered o.answer
remove-numbered {x} {memory} (removes a A) = concluded memory (remove_from x memory) (remove-tells x memory a A) (λ n i p l. from_one tt l.number) (λ r. tt)

-- the answer of an outcome that the definition gives
pub numbered-as : {A M : Type 0} {o o' : Outcome A M} → o ≡ o' → Numbered o'.answer → Numbered o.answer
numbered-as {A} {M} e h = subst (λ (z : Outcome A M). Numbered z.answer) (sym e) h
