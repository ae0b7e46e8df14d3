-- Two rooted trees, and two unrooted ones.
use Rattle.calls.proofs.Pairing.{tested-rooted, tested-unrooted}
use Rattle.calls.proofs.one_move_apart.Goals as goal

pub returns-in-Rooted : goal.returns-in-Rooted
returns-in-Rooted c x y k l e = tested-rooted k l c.in-Rooted.is (c.one_move_apart.ensures x.tree y.tree k.keeps l.keeps)

pub returns-in-Unrooted : goal.returns-in-Unrooted
returns-in-Unrooted c x y k l e = tested-unrooted k l c.one_move_apart-in-Unrooted.result c.in-Unrooted.is e (c.one_move_apart-in-Unrooted.ensures x.tree y.tree k.keeps l.keeps)
