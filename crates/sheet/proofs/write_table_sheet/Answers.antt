use Rattle.std.proofs.Common.{ℕ, arith, replicate}
use Rattle.std.proofs.Math.ListN.{length-replicate}
use Rattle.meaning.specs.Limits.{max_trees, pair_numbers}
use Rattle.graph.specs.Graph.{slices}
use Rattle.graph.specs.Copies.{MovesRoom}
use Rattle.held.specs.Kept.{KeptTrees}
use Rattle.held.specs.declared.Table.{Table}
use Rattle.sheet.proofs.Shown.{listed-fits, listed-wrote}
use Rattle.sheet.proofs.write_table_sheet.Goals as goal

-- the sizes of the arrays
room : {table : Table} → KeptTrees table → MovesRoom table (slices (replicate pair_numbers 0) (replicate max_trees 0)) (replicate max_trees 0)
room kept = record {
  kept = kept;
  room = record { pairs_room = omega (arith, length-replicate {A = ℕ} pair_numbers 0); counts_room = omega (arith, length-replicate {A = ℕ} max_trees 0) };
  firsts-room = omega (arith, length-replicate {A = ℕ} max_trees 0);
}

pub write_sheet-requires : goal.write_sheet-requires
write_sheet-requires c = listed-fits (room c.requires.kept) c.list_moves-m.ensures c.requires

pub returns : goal.returns
returns c = listed-wrote (room c.requires.kept) c.list_moves-m.ensures c.write_sheet.ensures
