-- A free number's first byte is 0, and a held tree's is not.
use Rattle.slots.proofs.Shelving.{free-says}
use Rattle.slots.proofs.Slots.is_free.Goals as goal

pub returns : goal.returns
returns c hs S = rw c.self.view_is (free-says S c.requires)
