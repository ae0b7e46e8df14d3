-- The calls, but for the sheet call (in Sheet) and the support call (in the crate families): from texts and lent memory at entry to the answer and the memory at exit. In words: docs/RULES.md, 'The calls'.
-- Assumes nothing.
use Rattle.std.specs.Prelude.{◌≡◌, Bool, true, false, cond, List, [], ◌∷◌, ◌++◌, ℕ, zero, suc, ◌+◌, ◌-◌, ◌*◌, leb, ltb, length}
use Rattle.meaning.specs.Limits.{text_bytes, kind_bytes, forest_bytes, max_trees, table_bytes, pair_numbers}
use Rattle.meaning.specs.Lists.{every}
use Rattle.meaning.specs.Tree.{Tree, leaves}
use Rattle.meaning.specs.Kind.{Kind, Kinded, Trees, as_trees, Takes, either, rooted_only}
use Rattle.meaning.specs.EitherKind.{ApartAs, form_as, forms_as}
use Rattle.meaning.specs.Move.{cut_at, forest}
use Rattle.meaning.specs.Interchange.{OneInterchange}
use Rattle.meaning.specs.Reading.{Read, got, refused, read_tree, read_table, unlike}
use Rattle.meaning.specs.Listing.{Pair, Listing, At, counts, flat}
use Rattle.meaning.specs.Copies.{firsts_of, Choice, merged, LinkedBy, MergedIslands}
use Rattle.meaning.specs.Compared.{comparison}
use Rattle.meaning.specs.Answer.{Answer, accepted, refusal, Outcome, Comparison, TableSize, TableMemory, GraphSize, GraphMemory, FirstsMemory, IslandsMemory, written, text_of, onward, conclude}

-- a lent slice: the stated size, and its length
abbrev pub Slice : Type 0
Slice = (least : ℕ) × ℕ

-- every slice has at least the stated size
abbrev pub enough : List Slice → Bool
enough slices = every (λ slice. leb slice.0 slice.1) slices

-- line 7, before any text is looked at: a lent slice is shorter than stated
abbrev pub lent : {A : Type 0} → Bool → Answer A → Answer A
lent true a = a
lent false a = refusal 7 0 0

-- line 8: text number i has at most 65,535 bytes
abbrev pub limited : {A : Type 0} → ℕ → List ℕ → Answer A → Answer A
limited i s a = cond (ltb text_bytes (length s)) (refusal 8 i 0) a

-- what reading text number i gives
abbrev pub answered : {A : Type 0} → ℕ → Read A → Answer A
answered i (got a p) = accepted a
answered i (refused n p) = refusal n i p

-- lent to the form call: 313 bytes
abbrev pub form_slices : List ℕ → List Slice
form_slices out = (kind_bytes, length out) ∷ []

-- what the form call reads: exactly one tree, of either kind
abbrev pub form_read : List ℕ → List ℕ → Answer Kinded
form_read s out = lent (enough (form_slices out)) (limited 0 s (answered 0 (read_tree either s)))

-- form call: its canonical text
abbrev pub form_call : List ℕ → List ℕ → Outcome ℕ (List ℕ)
form_call s out = conclude (form_read s out) out λ x. text_of (form_as x.kind x.tree) out

-- line 9, last: a tree of n leaves has 2n - 2 cuts
abbrev pub has_cut : ℕ → Tree → Answer Tree
has_cut c t = cond (ltb c (2 * leaves t - 2)) (accepted t) (refusal 9 0 0)

-- lent to the cut call: 307 bytes
abbrev pub cut_slices : List ℕ → List Slice
cut_slices out = (forest_bytes, length out) ∷ []

-- what the cut call reads: exactly one tree, which is rooted and has the cut
abbrev pub cut_read : List ℕ → ℕ → List ℕ → Answer Tree
cut_read s c out = lent (enough (cut_slices out)) (limited 0 s (onward (answered 0 (read_tree rooted_only s)) λ x. has_cut c x.tree))

-- cut call: the forest text of cut c
abbrev pub cut_call : List ℕ → ℕ → List ℕ → Outcome ℕ (List ℕ)
cut_call s c out = conclude (cut_read s c out) out λ t. text_of (forest (cut_at t c)) out

-- the two trees of a pair, where no line says that the second can't stand beside the first; else that line, at the `;` of text 1
abbrev pub together : ℕ → Kinded → Kinded → ℕ → Answer ((x : Kinded) × Kinded)
together zero x y p = accepted (x, y)
together (suc n) x y p = refusal (suc n) 1 (p - 1)

-- the second tree of a pair beside the first
abbrev pub beside : Kinded → Read Kinded → Answer ((x : Kinded) × Kinded)
beside x (got y p) = together (unlike x y) x y p
beside x (refused n p) = refusal n 1 p

-- what the pair call reads: both lengths, then text 0 whole, then text 1
abbrev pub pair_reading : List ℕ → List ℕ → Answer ((x : Kinded) × Kinded)
pair_reading s s' = limited 0 s (limited 1 s' (onward (answered 0 (read_tree either s)) λ x. beside x (read_tree either s')))

-- pair call: yes exactly when the two trees are one move apart, and how many forests were compared
pub data PairCall (s s' : List ℕ) : Answer Comparison → Type 0 where
  stands_apart : (x y : Kinded) → pair_reading s s' ≡ accepted (x, y) → ApartAs x.kind x.tree y.tree → PairCall s s' (accepted (comparison true x y))
  not_apart : (x y : Kinded) → pair_reading s s' ≡ accepted (x, y) → ¬ ApartAs x.kind x.tree y.tree → PairCall s s' (accepted (comparison false x y))
  refuses : (n i p : ℕ) → pair_reading s s' ≡ refusal n i p → PairCall s s' (refusal n i p)

-- a text of many trees
abbrev pub table_read : Takes → List ℕ → Answer Trees
table_read takes s = limited 0 s (onward (answered 0 (read_table takes s)) λ xs. accepted (as_trees xs))

-- the end of each tree's text, just past its `;`, where the first begins at `from`
unfoldable pub ends : Kind → ℕ → List Tree → List ℕ
ends k from [] = []
ends k from (t ∷ ts) = (from + length (form_as k t)) ∷ ends k (from + length (form_as k t)) ts

-- lent to the table call: 50,080 bytes and 160 numbers
abbrev pub table_slices : TableMemory → List Slice
table_slices memory = (table_bytes, length memory.texts) ∷ (max_trees, length memory.ends) ∷ []

-- what the table call reads
abbrev pub table_call_read : List ℕ → TableMemory → Answer Trees
table_call_read s memory = lent (enough (table_slices memory)) (table_read either s)

-- the canonical texts one after another, and the end of each
abbrev pub table_of : Trees → TableMemory → Outcome TableSize TableMemory
table_of table memory =
    let texts : List ℕ = forms_as table.kind table.trees in
    record {
      answer = accepted (record { bytes = length texts; trees = length table.trees });
      memory = record { texts = written texts memory.texts; ends = written (ends table.kind 0 table.trees) memory.ends };
    }

-- table call
abbrev pub table_call : List ℕ → TableMemory → Outcome TableSize TableMemory
table_call s memory = conclude (table_call_read s memory) memory λ table. table_of table memory

-- lent to the interchange call: 25,440 numbers for pairs and 160 for counts
abbrev pub graph_slices : GraphMemory → List Slice
graph_slices memory = (pair_numbers, length memory.pairs) ∷ (max_trees, length memory.counts) ∷ []

-- what the interchange call reads: rooted trees only
abbrev pub graph_read : List ℕ → GraphMemory → Answer Trees
graph_read s memory = lent (enough (graph_slices memory)) (table_read rooted_only s)

-- the pairs ps of the trees ts, and the neighbour counts
abbrev pub graph_of : List Tree → List Pair → GraphMemory → Outcome GraphSize GraphMemory
graph_of ts ps memory = record {
  answer = accepted (record { trees = length ts; pairs = length ps });
  memory = record { pairs = written (flat ps) memory.pairs; counts = written (counts (length ts) ps) memory.counts };
}

-- a call that lists the linked positions of the trees that it reads, and leaves the listed pairs as `left` says
pub data Lists {M : Type 0} (read : Answer Trees) (Linked : Trees → ℕ → ℕ → Type 0)
    (left : List Tree → List Pair → Outcome GraphSize M) (memory : M) : Outcome GraphSize M → Type 0 where
  lists : (table : Trees) (ps : List Pair) → read ≡ accepted table → Listing (length table.trees) (Linked table) ps → Lists read Linked left memory (left table.trees ps)
  refuses : (n i p : ℕ) → read ≡ refusal n i p → Lists read Linked left memory (record { answer = refusal n i p; memory = memory })

-- interchange call: the pairs that are one interchange apart; copies are kept apart
abbrev pub InterchangeCall : List ℕ → GraphMemory → Outcome GraphSize GraphMemory → Type 0
InterchangeCall s memory outcome = Lists (graph_read s memory) (λ table. At OneInterchange table.trees) (λ ts ps. graph_of ts ps memory) memory outcome

-- lent to the graph call: the same, and 160 numbers for first positions
abbrev pub firsts_slices : FirstsMemory → List Slice
firsts_slices memory = graph_slices memory.graph ++ ((max_trees, length memory.firsts) ∷ [])

-- what the graph call reads
abbrev pub firsts_read : List ℕ → FirstsMemory → Answer Trees
firsts_read s memory = lent (enough (firsts_slices memory)) (table_read either s)

-- the pairs and counts, and for every position the first position of its topology
abbrev pub firsts_graph_of : List Tree → List Pair → FirstsMemory → Outcome GraphSize FirstsMemory
firsts_graph_of ts ps memory =
    let graph : Outcome GraphSize GraphMemory = graph_of ts ps memory.graph in
    record { answer = graph.answer; memory = record { graph = graph.memory; firsts = written (firsts_of ts) memory.firsts } }

-- graph call with a stated choice: the pairs that are one move apart, copies merged or kept apart
abbrev pub ChoosingCall : Choice → List ℕ → FirstsMemory → Outcome GraphSize FirstsMemory → Type 0
ChoosingCall choice s memory outcome = Lists (firsts_read s memory) (λ table. LinkedBy choice (ApartAs table.kind) table.trees) (λ ts ps. firsts_graph_of ts ps memory) memory outcome

-- graph call: copies are merged
abbrev pub GraphCall : List ℕ → FirstsMemory → Outcome GraphSize FirstsMemory → Type 0
GraphCall s memory outcome = ChoosingCall merged s memory outcome

-- lent to the islands call: the graph call's slices, and 160 numbers for the islands'
abbrev pub islands_slices : IslandsMemory → List Slice
islands_slices memory = firsts_slices memory.lists ++ ((max_trees, length memory.islands) ∷ [])

-- what the islands call reads
abbrev pub islands_read : List ℕ → IslandsMemory → Answer Trees
islands_read s memory = lent (enough (islands_slices memory)) (table_read either s)

-- the graph of the trees ts with the pairs ps, and the islands' numbers ms
abbrev pub island_graph_of : List Tree → List Pair → List ℕ → IslandsMemory → Outcome GraphSize IslandsMemory
island_graph_of ts ps ms memory =
    let graph : Outcome GraphSize FirstsMemory = firsts_graph_of ts ps memory.lists in
    record { answer = graph.answer; memory = record { lists = graph.memory; islands = written ms memory.islands } }

-- islands call: what the graph call gives, and for each position the number of its island
pub data IslandsCall (s : List ℕ) (memory : IslandsMemory) : Outcome GraphSize IslandsMemory → Type 0 where
  numbers : (table : Trees) (ps : List Pair) (ms : List ℕ) → islands_read s memory ≡ accepted table
      → Listing (length table.trees) (LinkedBy merged (ApartAs table.kind) table.trees) ps → MergedIslands table.trees ps ms
      → IslandsCall s memory (island_graph_of table.trees ps ms memory)
  refuses : (n i p : ℕ) → islands_read s memory ≡ refusal n i p → IslandsCall s memory (record { answer = refusal n i p; memory = memory })
