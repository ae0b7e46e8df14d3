-- The line of a refusal, or the islands' lines.
use Rattle.std.proofs.Common.{arith}
use Rattle.sheet.proofs.Sizes.{island-sheet-fits}
use Rattle.sheet.proofs.Prints.{refusal-room, refusal-printed, table-printed}
use Rattle.sheet.proofs.islands.print_islands.Goals as goal

pub print_refusal-requires : goal.print_refusal-requires
print_refusal-requires c = refusal-room c.args.s.now c.args.out.now (omega arith) (λ x h. island-sheet-fits h) c.in-Err.x c.in-Err.ensures

pub returns-in-Ok : goal.returns-in-Ok
returns-in-Ok c = table-printed c.args.s.now c.args.out.now (omega arith) (λ x h. island-sheet-fits h) c.in-Ok.ensures c.write_table_islands.ensures

pub returns-in-Err : goal.returns-in-Err
returns-in-Err c = refusal-printed c.args.s.now c.args.out.now (omega arith) (λ x h. island-sheet-fits h) c.in-Err.x c.in-Err.ensures c.print_refusal.ensures
