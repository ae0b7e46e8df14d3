use Rattle.std.proofs.Common.{rules}
use Rattle.writing.proofs.Unrooted.{wrote-top}
use Rattle.writing.proofs.write_unrooted.Goals as goal

pub returns-in-Fork : goal.returns-in-Fork
returns-in-Fork c = wrote-top c.in-Fork.ensures.is c.write_part-next.ensures (search rules)
