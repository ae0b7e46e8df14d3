-- The graph of trees of one kind: it is that of the move of their kind, said of the rooted trees that stand for them.
-- Assumes nothing.
use mathlib.Core.Path.{◌≡◌}
use mathlib.Core.Logic.{◌↔◌}
use mathlib.Core.List.{List}
use Prim.Native.Nat.{ℕ, ◌<◌}
use native.Mathlib.Omega.{arith}
use lib.ListN.{length}
use Rattle.meaning.specs.Tree.{Tree as Topology, Distinct}
use Rattle.meaning.specs.Kind.{Kind, rooted, unrooted, Trees}
use Rattle.meaning.specs.EitherKind.{ApartAs}
use Rattle.meaning.specs.Listing.{At, tree_of}
use Rattle.meaning.specs.Copies.{Choice, merged, kept_apart, LinkedBy}
use Rattle.meaning.specs.Answer.{GraphMemory}
use Rattle.meaning.proofs.TableText.{good-at}
use Rattle.held.specs.Kept.{Standing, KeepsTrees}
use Rattle.held.specs.declared.Table.{Table}
use Rattle.held.proofs.Kept.{keeps-good}
use Rattle.unrooted.proofs.Apart.{standing-iff}
use Rattle.links.specs.Link.{Linked}
use Rattle.links.specs.declared.Link.{Link}
use Rattle.links.specs.declared.Copies.{Copies}
use Rattle.links.specs.Copies.{choice_of}
use Rattle.graph.specs.Copies.{GraphWritten, move_of, MovesWritten}
use Rattle.graph.proofs.Turns.{graph-iff}

-- relations that agree on two trees link their positions alike
linked-alike : (choice : Choice) (R S : Topology → Topology → Type 0) (ts : List Topology) (i j : ℕ) → At R ts i j ↔ At S ts i j → LinkedBy choice R ts i j ↔ LinkedBy choice S ts i j
linked-alike merged R S ts i j e = (λ x. (x.0, x.1, e.0 x.2), λ x. (x.0, x.1, e.1 x.2))
linked-alike kept_apart R S ts i j e = e

-- the move of a kind, said of the trees that stand for two of it
moves-alike : (k : Kind) (t u : Topology) → Distinct t → Distinct u → Standing k t → Standing k u → Linked (move_of k) t u ↔ ApartAs k t u
moves-alike rooted t u D E e f = (λ a. a, λ a. a)
moves-alike unrooted t u D E e f = let iff = standing-iff D E e f in (iff.1, iff.0)

-- the graph of the trees that the move of their kind links
pub moves-written : {table : Table} {memory memory' : GraphMemory} {firsts firsts' : List ℕ} {r : ℕ} (by : Link) (copies : Copies) → ((ts : Trees) → KeepsTrees table ts → by ≡ move_of ts.kind)
    → GraphWritten by copies table memory memory' firsts firsts' r → MovesWritten copies table memory memory' firsts firsts' r
moves-written by copies is w ts h = record {
  graph = graph-iff (λ i j lt l. linked-alike (choice_of copies) (Linked by) (ApartAs ts.kind) ts.trees i j (alike i j lt l)) (w ts.trees h.all).graph;
  in_firsts = (w ts.trees h.all).in_firsts;
}
  where
    alike : (i j : ℕ) → i < j → j < length ts.trees → At (Linked by) ts.trees i j ↔ At (ApartAs ts.kind) ts.trees i j
    alike i j lt l =
        let inside : i < length ts.trees = omega arith in
        let good = good-at ts.trees (keeps-good h.all) in
        rw (is ts h) (moves-alike ts.kind (tree_of ts.trees i) (tree_of ts.trees j) (good i inside).distinct (good j l).distinct (h.stand i inside) (h.stand j l))
