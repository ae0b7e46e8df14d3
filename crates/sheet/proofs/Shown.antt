-- The sheet of a table whose pairs and neighbour counts were listed.
-- Assumes nothing.
use mathlib.Core.List.{List}
use Prim.Native.Nat.{ℕ}
use native.Mathlib.Omega.{arith}
use lib.ListN.{length}
use Rattle.meaning.specs.Limits.{sheet_bytes}
use Rattle.meaning.specs.Kind.{Trees}
use Rattle.meaning.specs.Listing.{Pair}
use Rattle.meaning.specs.Answer.{GraphMemory}
use Rattle.meaning.specs.Sheet.{sheet, SheetOf, shows_pairs}
use Rattle.meaning.specs.Copies.{first_of}
use Rattle.meaning.proofs.Counts.{counts-length}
use Rattle.meaning.proofs.Sums.{map-length}
use Rattle.lent.specs.Runs.{Wrote}
use Rattle.lent.proofs.Runs.{starts_with}
use Rattle.held.specs.Kept.{KeepsTrees}
use Rattle.held.specs.declared.Table.{Table}
use Rattle.graph.specs.Copies.{MovesRoom, MovesWritten}
use Rattle.links.specs.declared.Copies.TheVariants.{KeptApart}
use Rattle.graph.specs.Listed.{PairsListed}
use Rattle.graph.proofs.Listed.{graph-pairs}
use Rattle.sheet.specs.Lines.{TreesListed, SheetFits}
use Rattle.sheet.specs.Printed.{TableFits, ShownAll}

module _ {table : Table} {memory memory' : GraphMemory} {firsts firsts' : List ℕ} {m : ℕ}
    (room : MovesRoom table memory firsts) (g : MovesWritten KeptApart table memory memory' firsts firsts' m) where
  module _ (ts : Trees) (h : KeepsTrees table ts) where
    abbrev linked : List Pair
    linked = (g ts h).graph.linked

    trees-listed : TreesListed table memory'.counts firsts' ts linked
    trees-listed = record {
      keeps = h;
      listing = (g ts h).graph.listing;
      counted = starts_with (g ts h).graph.in_counts (omega (arith, counts-length (length ts.trees) linked, h.all.few, room.room.counts_room));
      noted = starts_with (g ts h).in_firsts (omega (arith, map-length (first_of ts.trees) (length ts.trees), h.all.few, room.firsts-room));
    }

    pairs-listed : PairsListed memory'.pairs m linked
    pairs-listed = graph-pairs room.room h.all.few (g ts h).graph

  pub listed-fits : {len : ℕ} → TableFits table sheet_bytes len → SheetFits table memory'.pairs memory'.counts firsts' m len
  listed-fits f =
      let k = f.kept in
      record { trees = k.trees; linked = linked k.trees k.keeps; trees-listed = trees-listed k.trees k.keeps; pairs-listed = pairs-listed k.trees k.keeps; room = f.room }

  pub listed-wrote : {out out' : List ℕ} {r : ℕ}
      → ((ts : Trees) (ps : List Pair) → TreesListed table memory'.counts firsts' ts ps → PairsListed memory'.pairs m ps → Wrote (sheet ts ps) out out' 0 r)
      → ShownAll SheetOf table out out' r
  listed-wrote wrote ts h =
      let ps = linked ts h in
      record { bytes = sheet ts ps; shows = shows_pairs ps (g ts h).graph.listing; wrote = wrote ts ps (trees-listed ts h) (pairs-listed ts h) }
