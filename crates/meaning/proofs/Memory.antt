-- Lent memory: every accepted text fits into the stated sizes, so a slice keeps its length, and nothing is changed behind what is written.
-- Assumes nothing.
use mathlib.Core.Path.{◌≡◌, refl, sym, ap, ◌∙◌}
use mathlib.Core.List.{List, [], ◌∷◌}
use Prim.Native.Nat.{ℕ, suc, ◌+◌, ◌-◌, ◌*◌, ◌≤◌}
use native.Mathlib.Omega.{arith}
use lib.ListN.{length, drop, length-append, length-drop, length-map}
use lib.Seq.{drop-append-add, drop-drop}
use Rattle.meaning.specs.Limits.{kind_bytes, forest_bytes, max_trees, pair_numbers, sheet_bytes}
use Rattle.meaning.specs.Tree.{Tree, AllGood}
use Rattle.meaning.specs.Kind.{Kind, Kinded, Trees, Takes, either, rooted_only, as_trees}
use Rattle.meaning.specs.EitherKind.{form_as, forms_as}
use Rattle.meaning.specs.Move.{cut_at, forest}
use Rattle.meaning.specs.Listing.{Pair, Listing, counts, flat}
use Rattle.meaning.specs.Copies.{first_of, firsts_of, Choice}
use Rattle.meaning.specs.Answer.{Answer, accepted, refusal, Outcome, TableMemory, GraphSize, GraphMemory, FirstsMemory, IslandsMemory, written, text_of, conclude}
use Rattle.meaning.specs.Calls.{enough, lent, form_call, cut_call, table_read, ends, table_slices, table_call_read, table_of, table_call, graph_slices, graph_of, Lists, lists, InterchangeCall, firsts_slices, ChoosingCall, islands_slices, IslandsCall, numbers}
use Rattle.meaning.specs.Sheet.{Sheet, SheetCall, gives}
use Rattle.meaning.proofs.Length.{forest-length}
use Rattle.meaning.proofs.EitherKind.{form-length_as}
use Rattle.meaning.proofs.Forests.{cut_at-good}
use Rattle.meaning.proofs.Lent.{lent-ample}
use Rattle.meaning.proofs.Counts.{counts-length, flat-few}
use Rattle.meaning.proofs.Sums.{map-length}
use Rattle.meaning.proofs.Calls.{TableGiven, tells-accepted, form-tells, cut-tells, table-call-tells, graph-tells, firsts-tells, islands-tells, sheet-call-tells}

-- a slice keeps its length where what is written fits
pub written-length : {A : Type 0} (xs slice : List A) → length xs ≤ length slice → length (written xs slice) ≡ length slice
written-length xs slice h = simp (length-append, length-drop) (omega arith)

-- and its cells behind that
pub written_behind : {A : Type 0} (xs slice : List A) (k : ℕ) → length xs ≤ k → drop k (written xs slice) ≡ drop k slice
written_behind xs slice k h =
    let e : k ≡ length xs + (k - length xs) = omega arith in
    ap (λ (j : ℕ). drop j (written xs slice)) e ∙ drop-append-add xs (drop (length xs) slice) (k - length xs) ∙ drop-drop (k - length xs) (length xs) slice ∙ sym (ap (λ (j : ℕ). drop j slice) e)

-- what a call leaves holds where it holds of the memory at entry, and of what is done with an accepted text
pub concluded : {A B M : Type 0} (Q : M → Type 0) (a : Answer A) (memory : M) (done : A → Outcome B M) → Q memory → ((x : A) → a ≡ accepted x → Q (done x).memory) → Q (conclude a memory done).memory
concluded Q (accepted x) memory done h f = f x refl
concluded Q (refusal n i p) memory done h f = h

-- so the one slice keeps its length where each text that is written has at most the stated size
module _ {A : Type 0} (least : ℕ) (out : List ℕ) (a : Answer A) (text : A → List ℕ) where
  abbrev asked : Answer A
  asked = lent (enough ((least, length out) ∷ [])) a

  text-kept : ((x : A) → asked ≡ accepted x → length (text x) ≤ least) → length (conclude asked out (λ x. text_of (text x) out)).memory ≡ length out
  text-kept f =
      concluded (λ (m : List ℕ). length m ≡ length out) asked out (λ x. text_of (text x) out) refl
      (λ x e. written-length (text x) out (omega (arith, f x e, lent-ample ((least, length out) ∷ []) a e)))

pub form-memory : (s out : List ℕ) → length (form_call s out).memory ≡ length out
form-memory s out = text-kept kind_bytes out _ (λ (x : Kinded). form_as x.kind x.tree) (λ x e. form-length_as x.kind (tells-accepted (form-tells s out) e).0)

pub cut-memory : (s : List ℕ) (c : ℕ) (out : List ℕ) → length (cut_call s c out).memory ≡ length out
cut-memory s c out =
    text-kept forest_bytes out _ (λ t. forest (cut_at t c))
    (λ t e. let r = tells-accepted (cut-tells s c out) e in forest-length (cut_at t c) (cut_at-good r.good c r.is_cut))

-- the texts of trees have at most 313 bytes each
pub forms-length : (k : Kind) (ts : List Tree) → AllGood ts → length (forms_as k ts) ≤ kind_bytes * length ts
unfolding forms_as
forms-length k [] g = omega arith
forms-length k (t ∷ ts) g = omega (arith, length-append (form_as k t) (forms_as k ts), form-length_as k g.0, forms-length k ts g.1)

-- each tree has its end, and the last is the number of bytes written
module _ (k : Kind) where
  pub ends-length : (from : ℕ) (ts : List Tree) → length (ends k from ts) ≡ length ts
  unfolding ends
  ends-length from [] = refl
  ends-length from (t ∷ ts) = ap suc (ends-length (from + length (form_as k t)) ts)

  abbrev pub last : ℕ → List ℕ → ℕ
  last from [] = from
  last from (e ∷ es) = last e es

  pub ends_last : (from : ℕ) (ts : List Tree) → last from (ends k from ts) ≡ from + length (forms_as k ts)
  unfolding ends forms_as
  ends_last from [] = omega arith
  ends_last from (t ∷ ts) = omega (arith, ends_last (from + length (form_as k t)) ts, length-append (form_as k t) (forms_as k ts))

-- at most 160 trees were read
pub given-few : {takes : Takes} {s : List ℕ} {table : Trees} → TableGiven takes s table → length table.trees ≤ max_trees
given-few {table} r = rw r.is (as-few r.listed r.text.few)
  where
    as-few : (xs : List Kinded) → length xs ≤ max_trees → length (as_trees xs).trees ≤ max_trees
    as-few [] h = h
    as-few (x ∷ xs) h = rw length-map h

pub table-memory : (s : List ℕ) (memory : TableMemory) → (length (table_call s memory).memory.texts ≡ length memory.texts) × (length (table_call s memory).memory.ends ≡ length memory.ends)
table-memory s memory =
    concluded (λ (m : TableMemory). (length m.texts ≡ length memory.texts) × (length m.ends ≡ length memory.ends))
    (table_call_read s memory) memory (λ table. table_of table memory) (refl, refl) (λ table e.
    let r = tells-accepted (table-call-tells s memory) e in
    let room = lent-ample (table_slices memory) (table_read either s) e in
    let few = given-few r in
    let k = table.kind in
    let ts = table.trees in (
      written-length (forms_as k ts) memory.texts (omega (arith, forms-length k ts r.good, few, room.0)),
      written-length (ends k 0 ts) memory.ends (omega (arith, ends-length k 0 ts, few, room.1)),
    ))

-- the slices of a call that lists pairs
graph-kept : (memory : GraphMemory) (ts : List Tree) {L : ℕ → ℕ → Type 0} {ps : List Pair} → Listing (length ts) L ps → length ts ≤ max_trees
    → pair_numbers ≤ length memory.pairs → max_trees ≤ length memory.counts
    → (length (graph_of ts ps memory).memory.pairs ≡ length memory.pairs) × (length (graph_of ts ps memory).memory.counts ≡ length memory.counts)
graph-kept memory ts {ps} L few p c =
    (written-length (flat ps) memory.pairs (omega (arith, flat-few L few, p)), written-length (counts (length ts) ps) memory.counts (omega (arith, counts-length (length ts) ps, few, c)))

firsts-kept : (ts : List Tree) (firsts : List ℕ) → length ts ≤ max_trees → max_trees ≤ length firsts → length (written (firsts_of ts) firsts) ≡ length firsts
firsts-kept ts firsts few room = written-length (firsts_of ts) firsts (omega (arith, map-length (first_of ts) (length ts), few, room))

module _ (s : List ℕ) (memory : GraphMemory) where
  pub interchange-memory : (o : Outcome GraphSize GraphMemory) → InterchangeCall s memory o
      → (length o.memory.pairs ≡ length memory.pairs) × (length o.memory.counts ≡ length memory.counts)
  interchange-memory o (Lists.refuses n i p e) = (refl, refl)
  interchange-memory o (lists ts ps e L) =
      let few = given-few (tells-accepted (graph-tells s memory) e) in
      let room = lent-ample (graph_slices memory) (table_read rooted_only s) e in
      graph-kept memory ts.trees L few room.0 room.1

module _ (choice : Choice) (s : List ℕ) (memory : FirstsMemory) where
  pub graph-memory : (o : Outcome GraphSize FirstsMemory) → ChoosingCall choice s memory o
      → (length o.memory.graph.pairs ≡ length memory.graph.pairs) × (length o.memory.graph.counts ≡ length memory.graph.counts)
      × (length o.memory.firsts ≡ length memory.firsts)
  graph-memory o (Lists.refuses n i p e) = (refl, refl, refl)
  graph-memory o (lists ts ps e L) =
      let few = given-few (tells-accepted (firsts-tells s memory) e) in
      let room = lent-ample (firsts_slices memory) (table_read either s) e in
      let (x, y) = graph-kept memory.graph ts.trees L few room.0 room.1.0 in
      (x, y, firsts-kept ts.trees memory.firsts few room.1.1)

pub islands-memory : (s : List ℕ) (memory : IslandsMemory) (o : Outcome GraphSize IslandsMemory) → IslandsCall s memory o
    → (length o.memory.lists.graph.pairs ≡ length memory.lists.graph.pairs) × (length o.memory.lists.graph.counts ≡ length memory.lists.graph.counts)
    × (length o.memory.lists.firsts ≡ length memory.lists.firsts) × (length o.memory.islands ≡ length memory.islands)
islands-memory s memory o (IslandsCall.refuses n i p e) = (refl, refl, refl, refl)
islands-memory s memory o (numbers ts ps ms e L I) =
    let few = given-few (tells-accepted (islands-tells s memory) e) in
    let room = lent-ample (islands_slices memory) (table_read either s) e in
    let (x, y) = graph-kept memory.lists.graph ts.trees L few room.0 room.1.0 in
    (x, y, firsts-kept ts.trees memory.lists.firsts few room.1.1.0, written-length ms memory.islands (omega (arith, I.many, few, room.1.1.1)))

-- where no sheet is longer than stated
pub sheet-memory : {s out : List ℕ} {o : Outcome ℕ (List ℕ)} → ((x : List ℕ) → Sheet s x → length x ≤ sheet_bytes) → SheetCall s out o → length o.memory ≡ length out
sheet-memory {out} short (gives x h) = text-kept sheet_bytes out (accepted x) (λ (y : List ℕ). y) (λ y e. rw (tells-accepted (sheet-call-tells x out) e) (short x h))
