use Rattle.std.proofs.Common.{refl, arith}
use Rattle.sheet.proofs.IslandLines.{sizes-room, line-room, line_wrote, no_line, lines-done}
use Rattle.sheet.proofs.islands.write_island_lines.Goals as goal
use Rattle.sheet.proofs.islands.write_island_lines.Goals.{then-numbers-i, else-numbers-i}

pub tally-requires : goal.tally-requires
tally-requires c = sizes-room c.requires

pub loop-i-init : goal.loop-i-init
loop-i-init c = record { behind = refl; cells = refl }

pub write_island_line-next-requires : goal.write_island_line-next-requires
write_island_line-next-requires c = line-room c.requires c.tally.ensures c.loop-i-test.true c.if-numbers-i.true refl c.loop-i.invariant

pub loop-i-preserved : goal.loop-i-preserved
loop-i-preserved c =
    elim c.if-numbers-i.branch [
      | then-numbers-i w ↦ rw (w.out-is, w.next-is) (line_wrote c.requires c.tally.ensures c.loop-i-test.true w.if-numbers-i.true c.loop-i.invariant w.write_island_line-next.ensures)
      | else-numbers-i w ↦ rw (w.out-is, w.next-is) (no_line c.requires c.loop-i-test.true w.if-numbers-i.false c.loop-i.invariant)
    ]

pub returns : goal.returns
returns c = lines-done c.requires (omega arith) c.loop-i-test.false c.loop-i.invariant
