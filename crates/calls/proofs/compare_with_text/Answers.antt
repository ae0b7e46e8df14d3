-- Text 1 is read, or refused.
use Rattle.calls.proofs.Pairing.{read_kept, read_some, second-read, second-refused}
use Rattle.calls.proofs.compare_with_text.Goals as goal

pub compare-requires : goal.compare-requires
compare-requires c = (c.requires, read_kept c.args.s.now c.in-Ok.ensures, read_some c.args.s.now c.in-Ok.ensures)

pub returns-in-Err : goal.returns-in-Err
returns-in-Err c x k = rw c.of_second.ensures (second-refused c.args.s.now x c.in-Err.ensures)

pub returns-in-Ok : goal.returns-in-Ok
returns-in-Ok c x k = second-read c.args.s.now c.in-Ok.ensures x (λ y l. c.compare.ensures x y k l)
