-- The merged graph call, the islands call and what the islands program prints, over one sample in two tables.
-- Assumes nothing.
use mathlib.Core.Path.{◌≡◌, refl}
use mathlib.Core.List.{List}
use Prim.Native.Nat.{ℕ}
use lib.ListN.{length}
use Rattle.meaning.specs.Kind.{Trees, either}
use Rattle.meaning.specs.EitherKind.{ApartAs}
use Rattle.meaning.specs.Listing.{Pair, Listing}
use Rattle.meaning.specs.Copies.{merged, LinkedBy}
use Rattle.meaning.specs.Answer.{accepted, Outcome, GraphSize, FirstsMemory, IslandsMemory}
use Rattle.meaning.specs.Calls.{enough, table_read, firsts_slices, firsts_read, firsts_graph_of, GraphCall, islands_slices, islands_read, island_graph_of, IslandsCall}
use Rattle.meaning.specs.IslandSheet.{IslandSheet, island_lines}
use Rattle.meaning.proofs.Stands.{given-stand}
use Rattle.meaning.proofs.Calls.{tells-accepted, table-tells, TableGiven}
use Rattle.renaming.specs.Reordering.{SameSample}
use Rattle.renaming.specs.Outcomes.{SameTopologies, SameIslands}
use Rattle.renaming.proofs.Sample.{moves_so, carried, copies-moved}
use Rattle.renaming.proofs.Outcomes.{lent-read, has_listed}
use Rattle.renaming.proofs.Calls.{listing-as}
use Rattle.renaming.proofs.Sheets.{stand-after}
use Rattle.renaming.proofs.RenamedCalls.{Merged, has-numbered, has-shown}
use Rattle.renaming.proofs.MergedSample.{islands-moved}
use Rattle.renaming.proofs.MergedCounts.{topologies-moved}

module _ (s s' : List ℕ) {table table' : Trees} (e : table_read either s ≡ accepted table) (e' : table_read either s' ≡ accepted table')
    {f : ℕ → ℕ} {order : List ℕ} (S : SameSample f order table table') where
  given : TableGiven either s table
  given = tells-accepted (table-tells either s) e

  given' : TableGiven either s' table'
  given' = tells-accepted (table-tells either s') e'

  abbrev MergedPairs : Trees → List Pair → Type 0
  MergedPairs t ps = Listing (length t.trees) (LinkedBy merged (ApartAs t.kind) t.trees) ps

  after : {qs : List Pair} → MergedPairs table' qs → Listing (length table'.trees) (LinkedBy merged (ApartAs table.kind) table'.trees) qs
  after Q = listing-as merged table'.trees S.kind refl Q

  topologies : {ps qs : List Pair} → MergedPairs table ps → MergedPairs table' qs → SameTopologies order table.trees table'.trees ps qs
  topologies P Q =
      let stand = stand-after S given' in
      let C = carried S given.good given'.good (moves_so table.kind) in
      topologies-moved (moves_so table.kind) table.trees table'.trees S.as_many given.good given'.good (given-stand given) stand C
      (copies-moved S given.good given'.good (given-stand given) stand) P (after Q)

  islands : {ps qs : List Pair} {ms ns : List ℕ} → Merged table ps ms → Merged table' qs ns → SameIslands order (length table.trees) ms ns
  islands a b =
      let stand = stand-after S given' in
      let C = carried S given.good given'.good (moves_so table.kind) in
      islands-moved (moves_so table.kind) table.trees table'.trees S.as_many given.good given'.good (given-stand given) stand C
      (copies-moved S given.good given'.good (given-stand given) stand) a.0 (after b.0) a.1 b.1

-- what the graph call writes with copies merged: the topologies that are linked stay linked
pub sample-topologies : (s s' : List ℕ) (memory memory' : FirstsMemory) {table table' : Trees} → firsts_read s memory ≡ accepted table → firsts_read s' memory' ≡ accepted table'
    → {f : ℕ → ℕ} {order : List ℕ} → SameSample f order table table' → {o o' : Outcome GraphSize FirstsMemory} → GraphCall s memory o → GraphCall s' memory' o'
    → (ps : List Pair) × (qs : List Pair) × (o ≡ firsts_graph_of table.trees ps memory) × (o' ≡ firsts_graph_of table'.trees qs memory') × SameTopologies order table.trees table'.trees ps qs
sample-topologies s s' memory memory' e e' S c c' =
    let (ps, x, P) = has_listed e c in
    let (qs, y, Q) = has_listed e' c' in
    (ps, qs, x, y, topologies s s' (lent-read (enough (firsts_slices memory)) e) (lent-read (enough (firsts_slices memory')) e') S P Q)

-- what the islands call writes: trees on one island stay on one, and it keeps its size
pub sample-islands : (s s' : List ℕ) (memory memory' : IslandsMemory) {table table' : Trees} → islands_read s memory ≡ accepted table → islands_read s' memory' ≡ accepted table'
    → {f : ℕ → ℕ} {order : List ℕ} → SameSample f order table table' → {o o' : Outcome GraphSize IslandsMemory} → IslandsCall s memory o → IslandsCall s' memory' o'
    → (ps : List Pair) × (qs : List Pair) × (ms : List ℕ) × (ns : List ℕ)
    × (o ≡ island_graph_of table.trees ps ms memory) × (o' ≡ island_graph_of table'.trees qs ns memory') × SameIslands order (length table.trees) ms ns
sample-islands s s' memory memory' e e' S c c' =
    let (ps, ms, x, a) = has-numbered e c in
    let (qs, ns, y, b) = has-numbered e' c' in
    (ps, qs, ms, ns, x, y, islands s s' (lent-read (enough (islands_slices memory)) e) (lent-read (enough (islands_slices memory')) e') S a b)

-- and what the islands program prints
pub sample-island-sheet : (s s' : List ℕ) {table table' : Trees} → table_read either s ≡ accepted table → table_read either s' ≡ accepted table'
    → {f : ℕ → ℕ} {order : List ℕ} → SameSample f order table table' → {x x' : List ℕ} → IslandSheet s x → IslandSheet s' x'
    → (ms : List ℕ) × (ns : List ℕ) × (x ≡ island_lines ms) × (x' ≡ island_lines ns) × SameIslands order (length table.trees) ms ns
sample-island-sheet s s' e e' S p p' =
    let (ps, ms, x, a) = has-shown e p in
    let (qs, ns, y, b) = has-shown e' p' in
    (ms, ns, x, y, islands s s' e e' S a b)
