use Rattle.lent.proofs.Runs.{wrote_one, wrote-more}
use Rattle.writing.proofs.write_part.Goals as goal

pub returns : goal.returns
returns c = wrote-more c.write_node-behind.ensures (wrote_one c.write_node-behind.new.out c.write_node-behind.result c.args.end)
