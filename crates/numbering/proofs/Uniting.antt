-- Islands of listed pairs: one pair more, and the islands of a table's graph.
-- Assumes nothing.
use mathlib.Core.Path.{◌≡◌, refl, sym, ap, subst, ◌∙◌}
use mathlib.Core.List.{List, [], ◌∷◌, ◌++◌}
use Prim.Native.Nat.{ℕ, ◌+◌, ◌*◌, ◌≤◌, ◌<◌}
use native.Mathlib.Numerals.{add-one}
use native.Mathlib.Omega.{arith}
use lib.ListN.{length, take, drop, get_or}
use lib.Seq.{take-suc, length-take-le}
use Rattle.meaning.specs.Listing.{Pair, flat}
use Rattle.meaning.specs.Answer.{GraphMemory}
use Rattle.meaning.specs.EitherKind.{ApartAs}
use Rattle.meaning.specs.Islands.{unite, unite_all}
use Rattle.meaning.specs.Copies.{firsts_of}
use Rattle.meaning.proofs.Islands.{listing-within}
use Rattle.meaning.proofs.MergedIslands.{merged-found}
use Rattle.lent.specs.Runs.{Wrote}
use Rattle.lent.proofs.Runs.{sets-start, wrote-length, written-first}
use Rattle.held.specs.declared.Table.{Table}
use Rattle.graph.specs.Copies.{MovesWritten}
use Rattle.links.specs.declared.Copies.TheVariants.{Merged}
use Rattle.numbering.specs.Islands.{IslandsRoom, IslandGraphRoom, IslandsWritten}
use Rattle.graph.proofs.Listed.{pairs-long, pairs-taken, graph-pairs}

-- ---- one pair more
unite-snoc : (ms : List ℕ) (ps : List Pair) (p : Pair) → unite_all ms (ps ++ (p ∷ [])) ≡ unite (unite_all ms ps) p.0 p.1
unite-snoc ms [] p = refl
unite-snoc ms (q ∷ ps) p = unite-snoc (unite ms q.0 q.1) ps p

pub unite-next : (ms : List ℕ) (ps : List Pair) (k : ℕ) → k < length ps → unite_all ms (take (k + 1) ps) ≡ unite (unite_all ms (take k ps)) (get_or ps k (0, 0)).0 (get_or ps k (0, 0)).1
unite-next ms ps k h = rw (add-one, take-suc ps k (0, 0) h) (unite-snoc ms (take k ps) (get_or ps k (0, 0)))

-- ---- the islands of a table's graph
module _ {table : Table} {memory memory' : GraphMemory} {firsts firsts' islands : List ℕ} {m : ℕ}
    (room : IslandGraphRoom table memory firsts islands) (w : MovesWritten Merged table memory memory' firsts firsts' m) where
  pub islands-long : (table.len ≤ length islands) × (table.len ≤ length firsts') × (2 * m ≤ length memory'.pairs)
  islands-long =
      let k = room.graph.kept.keeps in
      let g = w room.graph.kept.trees k in (
        omega (arith, k.all.count, k.all.few, room.islands-room),
        omega (arith, k.all.count, k.all.few, room.graph.firsts-room, wrote-length g.in_firsts),
        pairs-long (graph-pairs room.graph.room k.all.few g.graph),
      )

  pub islands-room : IslandsRoom (take table.len islands) (take table.len firsts') (take (2 * m) memory'.pairs)
  islands-room =
      let k = room.graph.kept.keeps in
      let g = w room.graph.kept.trees k in
      let long = islands-long in
      let same : length (take table.len islands) ≡ table.len = length-take-le table.len islands long.0 in
      record {
        few = omega (arith, k.all.count, k.all.few, same);
        same = length-take-le table.len firsts' long.1 ∙ sym same;
        linked = g.graph.linked;
        listed = pairs-taken (graph-pairs room.graph.room k.all.few g.graph);
        within = rw (same, k.all.count) (listing-within g.graph.listing);
      }

  pub islands-written : {numbers : List ℕ} → length numbers ≡ length (take table.len islands)
      → ((ps : List Pair) → take (2 * m) memory'.pairs ≡ flat ps → numbers ≡ unite_all (take table.len firsts') ps)
      → IslandsWritten table memory memory' firsts firsts' islands (numbers ++ drop table.len islands) m
  islands-written {numbers} same each ts h =
      let g = w ts h in
      let ps = g.graph.linked in
      let k = h.all in
      let pairs = pairs-taken (graph-pairs room.graph.room k.few g.graph) in
      let noted : take table.len firsts' ≡ firsts_of ts.trees =
      ap (λ (n : ℕ). take n firsts') k.count ∙ written-first g.in_firsts (omega (arith, k.few, room.graph.firsts-room)) in
      let is : numbers ≡ unite_all (firsts_of ts.trees) ps = each ps pairs ∙ ap (λ (xs : List ℕ). unite_all xs ps) noted in
      let long : length numbers ≡ length ts.trees = omega (arith, length-take-le table.len islands islands-long.0, k.count) in
      record {
        merged = g;
        numbers = unite_all (firsts_of ts.trees) ps;
        found = merged-found ts.trees (ApartAs ts.kind) g.graph.listing;
        in-islands = subst (λ (xs : List ℕ). Wrote xs islands (numbers ++ drop table.len islands) 0 (length ts.trees)) is (record {
          behind = omega (arith, long);
          cells = sym (sets-start islands numbers (omega (arith, islands-long.0, long, k.count)) ∙ ap (λ (n : ℕ). numbers ++ drop n islands) (long ∙ sym k.count));
        });
      }
