-- The ways through the calls that list pairs.
-- Assumes nothing.
use mathlib.Core.Path.{◌≡◌, subst, ◌∙◌}
use mathlib.Core.List.{List}
use Prim.Native.Nat.{ℕ, ◌≤◌}
use native.Mathlib.Omega.{arith}
use lib.ListN.{length}
use Rattle.meaning.specs.Limits.{max_trees}
use Rattle.meaning.specs.Tree.{Tree}
use Rattle.meaning.specs.Kind.{either, rooted_only}
use Rattle.meaning.specs.Interchange.{OneInterchange}
use Rattle.meaning.specs.Listing.{At, counts, flat}
use Rattle.meaning.specs.Copies.{first_of, firsts_of}
use Rattle.meaning.specs.Answer.{accepted, GraphMemory, FirstsMemory, IslandsMemory, written}
use Rattle.meaning.specs.Calls.{table_read, graph_slices, graph_read, lists, InterchangeCall, firsts_slices, firsts_read, ChoosingCall, islands_slices, islands_read, IslandsCall, numbers}
use Rattle.meaning.proofs.Counts.{counts-length, flat-few}
use Rattle.meaning.proofs.Sums.{map-length}
use Rattle.meaning.proofs.Lent.{lent-ample}
use Rattle.lent.proofs.Runs.{sets-start}
use Rattle.held.specs.Kept.{KeptAll, KeepsTrees}
use Rattle.std.specs.Prelude.{Ok}
use Rattle.held.specs.declared.Table.{Table}
use Rattle.sharing.specs.Links.{OfTrees}
use Rattle.links.specs.Copies.{choice_of}
use Rattle.links.specs.declared.Copies.{Copies}
use Rattle.graph.specs.Graph.{ListRoom, Graph}
use Rattle.graph.specs.Copies.{MovesRoom, FirstsGraph, MovesWritten}
use Rattle.numbering.specs.Islands.{IslandGraphRoom, IslandsWritten}
use Rattle.tables.specs.Lent.{Given}
use Rattle.listing_calls.specs.Paper.{graph_outcome, firsts_outcome, islands_outcome}

-- what a graph that was written leaves in the lent slices
module _ {k n : ℕ} {L : ℕ → ℕ → Type 0} {memory memory' : GraphMemory} (room : ListRoom memory) (few : k ≤ max_trees) (g : Graph k L memory memory' n) where
  pairs-left : memory'.pairs ≡ written (flat g.linked) memory.pairs
  pairs-left = g.in_pairs.cells ∙ sets-start memory.pairs (flat g.linked) (omega (arith, flat-few g.listing few, room.pairs_room))

  counts-left : memory'.counts ≡ written (counts k g.linked) memory.counts
  counts-left = g.in_counts.cells ∙ sets-start memory.counts (counts k g.linked) (omega (arith, counts-length k g.linked, few, room.counts_room))

-- and the first positions
firsts-left : {R : Tree → Tree → Type 0} {copies : Copies} {ts : List Tree} {memory memory' : GraphMemory} {firsts firsts' : List ℕ} {n : ℕ}
    → FirstsGraph R copies ts memory memory' firsts firsts' n → length ts ≤ max_trees → max_trees ≤ length firsts → firsts' ≡ written (firsts_of ts) firsts
firsts-left {ts} {firsts} g few room = g.in_firsts.cells ∙ sets-start firsts (firsts_of ts) (omega (arith, map-length (first_of ts) (length ts), few, room))

-- ---- the interchange call
module _ (s : List ℕ) (memory : GraphMemory) {table : Table} (read : Given (graph_read s memory) (KeepsTrees table)) where
  pub interchange-room : KeptAll table × ListRoom memory
  interchange-room =
      let room = lent-ample (graph_slices memory) (table_read rooted_only s) read.is in
      (record { trees = read.value.trees; keeps = read.keeps.all }, record { pairs_room = room.0; counts_room = room.1 })

  pub interchange-listed : {memory' : GraphMemory} {n : ℕ} → OfTrees table (λ ts. Graph (length ts) (At OneInterchange ts) memory memory' n)
      → InterchangeCall s memory (graph_outcome (Ok (record { trees = table.len; pairs = n })) memory'.pairs memory'.counts)
  interchange-listed w =
      let g = w read.value.trees read.keeps.all in
      let few = read.keeps.all.few in
      let room = interchange-room.1 in
      subst (InterchangeCall s memory) (same read.keeps.all.count g.many (pairs-left room few g) (counts-left room few g)) (lists read.value g.linked read.is g.listing)
    where
      same : {k k' n n' : ℕ} {x x' y y' : List ℕ} → k ≡ k' → n ≡ n' → x ≡ x' → y ≡ y'
          → record { answer = accepted (record { trees = k'; pairs = n' }); memory = record { pairs = x'; counts = y' } } ≡ graph_outcome (Ok (record { trees = k; pairs = n })) x y
      same a b c d = rw (a, b, c, d)

-- ---- the graph call with a stated choice
module _ (s : List ℕ) (memory : FirstsMemory) {table : Table} (given : Given (firsts_read s memory) (KeepsTrees table)) where
  pub graph-room : MovesRoom table memory.graph memory.firsts
  graph-room =
      let room = lent-ample (firsts_slices memory) (table_read either s) given.is in
      record { kept = record { trees = given.value; keeps = given.keeps }; room = record { pairs_room = room.0; counts_room = room.1.0 }; firsts-room = room.1.1 }

  pub graph-listed : (copies : Copies) {memory' : GraphMemory} {firsts' : List ℕ} {n : ℕ} → MovesWritten copies table memory.graph memory' memory.firsts firsts' n
      → ChoosingCall (choice_of copies) s memory (firsts_outcome (Ok (record { trees = table.len; pairs = n })) memory'.pairs memory'.counts firsts')
  graph-listed copies w =
      let g = w given.value given.keeps in
      let few = given.keeps.all.few in
      let room = graph-room.room in
      subst (ChoosingCall (choice_of copies) s memory)
      (same given.keeps.all.count g.graph.many (pairs-left room few g.graph) (counts-left room few g.graph) (firsts-left g few graph-room.firsts-room))
      (lists given.value g.graph.linked given.is g.graph.listing)
    where
      same : {k k' n n' : ℕ} {x x' y y' z z' : List ℕ} → k ≡ k' → n ≡ n' → x ≡ x' → y ≡ y' → z ≡ z'
          → record { answer = accepted (record { trees = k'; pairs = n' }); memory = record { graph = record { pairs = x'; counts = y' }; firsts = z' } } ≡ firsts_outcome (Ok (record { trees = k; pairs = n })) x y z
      same a b c d f = rw (a, b, c, d, f)

-- ---- the islands call
module _ (s : List ℕ) (memory : IslandsMemory) {table : Table} (taken : Given (islands_read s memory) (KeepsTrees table)) where
  pub islands-room : IslandGraphRoom table memory.lists.graph memory.lists.firsts memory.islands
  islands-room =
      let room = lent-ample (islands_slices memory) (table_read either s) taken.is in
      record {
        graph = record {
          kept = record { trees = taken.value; keeps = taken.keeps };
          room = record { pairs_room = room.0; counts_room = room.1.0 };
          firsts-room = room.1.1.0;
        };
        islands-room = room.1.1.1;
      }

  pub islands-listed : {memory' : GraphMemory} {firsts' islands' : List ℕ} {n : ℕ}
      → IslandsWritten table memory.lists.graph memory' memory.lists.firsts firsts' memory.islands islands' n
      → IslandsCall s memory (islands_outcome (Ok (record { trees = table.len; pairs = n })) memory'.pairs memory'.counts firsts' islands')
  islands-listed {islands'} w =
      let g = w taken.value taken.keeps in
      let few = taken.keeps.all.few in
      let room = islands-room.graph.room in
      let graph = g.merged.graph in
      let numbered : islands' ≡ written g.numbers memory.islands =
      g.in-islands.cells ∙ sets-start memory.islands g.numbers (omega (arith, g.found.many, few, islands-room.islands-room)) in
      subst (IslandsCall s memory)
      (same taken.keeps.all.count graph.many (pairs-left room few graph) (counts-left room few graph) (firsts-left g.merged few islands-room.graph.firsts-room) numbered)
      (numbers taken.value graph.linked g.numbers taken.is graph.listing g.found)
    where
      same : {k k' n n' : ℕ} {x x' y y' z z' u u' : List ℕ} → k ≡ k' → n ≡ n' → x ≡ x' → y ≡ y' → z ≡ z' → u ≡ u'
          → record { answer = accepted (record { trees = k'; pairs = n' }); memory = record { lists = record { graph = record { pairs = x'; counts = y' }; firsts = z' }; islands = u' } }
          ≡ islands_outcome (Ok (record { trees = k; pairs = n })) x y z u
      same a b c d f h = rw (a, b, c, d, f, h)
