-- A text whose trees' pieces are put in another order: two trees are a listed pair after it exactly when they were before, and their counts go with them.
-- Assumes nothing.
use mathlib.Core.Path.{◌≡◌, sym, subst}
use mathlib.Core.List.{List}
use Prim.Native.Nat.{ℕ}
use lib.ListN.{length}
use Rattle.meaning.specs.Kind.{Trees, either, rooted_only}
use Rattle.meaning.specs.Copies.{kept_apart}
use Rattle.meaning.specs.Answer.{accepted, Outcome, GraphSize, GraphMemory, FirstsMemory, IslandsMemory}
use Rattle.meaning.specs.Calls.{enough, table_read, graph_slices, graph_read, firsts_slices, firsts_read, firsts_graph_of, InterchangeCall, ChoosingCall, GraphCall, islands_slices, islands_read, island_graph_of, IslandsCall}
use Rattle.meaning.specs.IslandSheet.{IslandSheet, island_lines}
use Rattle.meaning.specs.Listing.{Pair}
use Rattle.meaning.proofs.Calls.{tells-accepted, table-tells, firsts-tells, graph-tells, islands-tells}
use Rattle.renaming.specs.Renaming.{rename_text, Rule}
use Rattle.renaming.specs.Reordering.{Order, reorder_table, reorder_text}
use Rattle.renaming.specs.Outcomes.{SamePairs, SameTopologies, SameIslands}
use Rattle.renaming.proofs.RenamedRead.{read-renamed}
use Rattle.renaming.proofs.ReorderedText.{reordered-accepted}
use Rattle.renaming.proofs.TwoTables.{reordered-sample, both-sample}
use Rattle.renaming.proofs.Outcomes.{lent-read, lent_alike}
use Rattle.renaming.proofs.Calls.{sample-pairs, sample-interchanges}
use Rattle.renaming.proofs.MergedCalls.{sample-topologies, sample-islands, sample-island-sheet}

-- the graph call, with copies kept apart
pub reordered-pairs : (s : List ℕ) (memory : FirstsMemory) {table : Trees} → firsts_read s memory ≡ accepted table → (order : List ℕ) → Order (length table.trees) order
    → {o o' : Outcome GraphSize FirstsMemory} → ChoosingCall kept_apart s memory o → ChoosingCall kept_apart (reorder_text order s) memory o'
    → SamePairs order o.answer o'.answer o.memory.graph o'.memory.graph
reordered-pairs s memory {table} e order O c c' =
    let is_enough = enough (firsts_slices memory) in
    let read : firsts_read (reorder_text order s) memory ≡ accepted (reorder_table order table) =
    lent_alike is_enough (table_read either s) (table_read either (reorder_text order s)) e (reordered-accepted either s (lent-read is_enough e) order O) in
    sample-pairs s (reorder_text order s) memory memory e read (reordered-sample (tells-accepted (firsts-tells s memory) e).good O) c c'

-- the same with labels replaced besides, where the renamed text is accepted
pub both-pairs : (f : ℕ → ℕ) (s : List ℕ) (memory : FirstsMemory) {table table' : Trees} → firsts_read s memory ≡ accepted table → firsts_read (rename_text f s) memory ≡ accepted table'
    → Rule f table.trees → (order : List ℕ) → Order (length table.trees) order
    → {o o' : Outcome GraphSize FirstsMemory} → ChoosingCall kept_apart s memory o → ChoosingCall kept_apart (reorder_text order (rename_text f s)) memory o'
    → SamePairs order o.answer o'.answer o.memory.graph o'.memory.graph
both-pairs f s memory {table} {table'} e e' r order O c c' =
    let is_enough = enough (firsts_slices memory) in
    let R = read-renamed either f s (lent-read is_enough e) r (lent-read is_enough e') in
    let O' : Order (length table'.trees) order = subst (λ (n : ℕ). Order n order) (sym R.many) O in
    let s' = rename_text f s in
    let read : firsts_read (reorder_text order s') memory ≡ accepted (reorder_table order table') =
    lent_alike is_enough (table_read either s') (table_read either (reorder_text order s')) e' (reordered-accepted either s' (lent-read is_enough e') order O') in
    sample-pairs s (reorder_text order s') memory memory e read (both-sample r R O) c c'

-- the interchange call
pub reordered-interchanges : (s : List ℕ) (memory : GraphMemory) {table : Trees} → graph_read s memory ≡ accepted table → (order : List ℕ) → Order (length table.trees) order
    → {o o' : Outcome GraphSize GraphMemory} → InterchangeCall s memory o → InterchangeCall (reorder_text order s) memory o'
    → SamePairs order o.answer o'.answer o.memory o'.memory
reordered-interchanges s memory {table} e order O c c' =
    let is_enough = enough (graph_slices memory) in
    let read : graph_read (reorder_text order s) memory ≡ accepted (reorder_table order table) =
    lent_alike is_enough (table_read rooted_only s) (table_read rooted_only (reorder_text order s)) e (reordered-accepted rooted_only s (lent-read is_enough e) order O) in
    sample-interchanges s (reorder_text order s) memory memory e read (reordered-sample (tells-accepted (graph-tells s memory) e).good O) c c'

-- the graph call, with copies merged
pub reordered-topologies : (s : List ℕ) (memory : FirstsMemory) {table : Trees} → firsts_read s memory ≡ accepted table → (order : List ℕ) → Order (length table.trees) order
    → {o o' : Outcome GraphSize FirstsMemory} → GraphCall s memory o → GraphCall (reorder_text order s) memory o' → let us = (reorder_table order table).trees in
    (ps : List Pair) × (qs : List Pair) × (o ≡ firsts_graph_of table.trees ps memory) × (o' ≡ firsts_graph_of us qs memory) × SameTopologies order table.trees us ps qs
reordered-topologies s memory {table} e order O c c' =
    let is_enough = enough (firsts_slices memory) in
    let read : firsts_read (reorder_text order s) memory ≡ accepted (reorder_table order table) =
    lent_alike is_enough (table_read either s) (table_read either (reorder_text order s)) e (reordered-accepted either s (lent-read is_enough e) order O) in
    sample-topologies s (reorder_text order s) memory memory e read (reordered-sample (tells-accepted (firsts-tells s memory) e).good O) c c'

-- the islands call
pub reordered-islands : (s : List ℕ) (memory : IslandsMemory) {table : Trees} → islands_read s memory ≡ accepted table → (order : List ℕ) → Order (length table.trees) order
    → {o o' : Outcome GraphSize IslandsMemory} → IslandsCall s memory o → IslandsCall (reorder_text order s) memory o' → let us = (reorder_table order table).trees in
    (ps : List Pair) × (qs : List Pair) × (ms : List ℕ) × (ns : List ℕ)
    × (o ≡ island_graph_of table.trees ps ms memory) × (o' ≡ island_graph_of us qs ns memory) × SameIslands order (length table.trees) ms ns
reordered-islands s memory {table} e order O c c' =
    let is_enough = enough (islands_slices memory) in
    let read : islands_read (reorder_text order s) memory ≡ accepted (reorder_table order table) =
    lent_alike is_enough (table_read either s) (table_read either (reorder_text order s)) e (reordered-accepted either s (lent-read is_enough e) order O) in
    sample-islands s (reorder_text order s) memory memory e read (reordered-sample (tells-accepted (islands-tells s memory) e).good O) c c'

-- what the islands program prints
pub reordered-island-sheet : (s : List ℕ) {table : Trees} → table_read either s ≡ accepted table → (order : List ℕ) → Order (length table.trees) order
    → {x x' : List ℕ} → IslandSheet s x → IslandSheet (reorder_text order s) x'
    → (ms : List ℕ) × (ns : List ℕ) × (x ≡ island_lines ms) × (x' ≡ island_lines ns) × SameIslands order (length table.trees) ms ns
reordered-island-sheet s e order O p p' =
    sample-island-sheet s (reorder_text order s) e (reordered-accepted either s e order O) (reordered-sample (tells-accepted (table-tells either s) e).good O) p p'
