use Rattle.writing.proofs.Unrooted.{wrote-bare}
use Rattle.writing.proofs.write_bare.Goals as goal

pub returns-in-Fork : goal.returns-in-Fork
returns-in-Fork c = wrote-bare c.in-Fork.ensures.is c.write_part-next.ensures c.write_node-in-Fork.ensures
