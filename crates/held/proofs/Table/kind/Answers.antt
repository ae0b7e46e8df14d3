-- `held::Table::kind` meets its contract.
-- Assumes nothing.
use Rattle.held.proofs.Table.kind.Goals as goal

pub returns : goal.returns
returns c ts k = k.first
