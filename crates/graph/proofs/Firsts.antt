-- The first positions that were noted, and the room for their links.
-- Assumes nothing.
use mathlib.Core.Path.{ap, ◌∙◌}
use mathlib.Core.Bool.{false}
use mathlib.Core.List.{List}
use Prim.Native.Nat.{ℕ}
use native.Mathlib.Omega.{arith}
use lib.ListN.{length, get_or, replicate}
use Rattle.meaning.specs.Tree.{Tree as Topology}
use Rattle.meaning.specs.Copies.{first_of, firsts_of}
use Rattle.meaning.specs.Answer.{GraphMemory}
use Rattle.meaning.proofs.Sums.{map-length, map_at}
use Rattle.lent.specs.Runs.{Wrote}
use Rattle.lent.proofs.Runs.{sets-at, wrote-length}
use Rattle.held.specs.Kept.{KeepsAll}
use Rattle.held.specs.declared.Table.{Table}
use Rattle.meaning.specs.Limits.{max_trees}
use Rattle.sharing.proofs.Links.{none-square}
use Rattle.links.specs.Copies.{FirstsRoom}
use Rattle.graph.specs.Copies.{GraphRoom}

-- the firsts that were noted, and flags that link none, are room for the links of first positions
pub firsts-room : {table : Table} {memory : GraphMemory} {firsts firsts' : List ℕ} → GraphRoom table memory firsts
    → ((ts : List Topology) → KeepsAll table ts → Wrote (firsts_of ts) firsts firsts' 0 (length ts)) → FirstsRoom table firsts' (replicate max_trees (replicate max_trees false))
firsts-room {firsts} room w =
    let k = room.kept in
    record {
      kept = k;
      noted = λ ts h i inside.
          ap (λ (xs : List ℕ). get_or xs i 0) (w ts h).cells
          ∙ sets-at 0 firsts (firsts_of ts) (omega (arith, map-length (first_of ts) (length ts), h.few, room.firsts-room)) i (omega (arith, map-length (first_of ts) (length ts)))
          ∙ map_at (first_of ts) (length ts) i inside;
      lent = omega (arith, room.firsts-room, wrote-length (w k.trees k.keeps));
      square = none-square;
    }
