-- `held::Table::push` meets its contract.
-- Assumes nothing.
use mathlib.Core.Path.{◌≡◌}
use native.Mathlib.Omega.{arith}
use lib.ListN.{length}
use Rattle.held.proofs.Kept.{one-behind}
use Rattle.held.proofs.Table.push.Goals as goal

-- `size` is what owning the table tells of its array
pub returns : goal.returns
returns c ts x h k fits =
    let size : length c.args.self.trees ≡ 160 = c.well_formed.0.1.1.0.1.0.1 in
    one-behind ts x c.args.self c.args.tree (omega (arith, c.requires)) c.requires h k fits
