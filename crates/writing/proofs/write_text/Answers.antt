use Rattle.writing.proofs.Lines.{wrote-whole}
use Rattle.writing.proofs.write_text.Goals as goal

pub returns : goal.returns
returns c = wrote-whole c.copy.ensures
