use Rattle.sheet.proofs.IslandLines.{numbered-fits, islands-shown}
use Rattle.sheet.proofs.islands.write_table_islands.Goals as goal

pub write_island_lines-requires : goal.write_island_lines-requires
write_island_lines-requires c = let p = c.requires in numbered-fits c.list_islands.ensures p.kept.trees p.kept.keeps p.room

pub returns : goal.returns
returns c = islands-shown c.list_islands.ensures c.write_island_lines.ensures
