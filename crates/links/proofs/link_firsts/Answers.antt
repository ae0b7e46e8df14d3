use Rattle.std.proofs.Common.{rules}
use Rattle.links.specs.Link.{Respun}
use Rattle.links.proofs.Linked.{tested-linked, unrooted-linked}
use Rattle.links.proofs.link_firsts.Goals as goal

pub returns-in-Move : goal.returns-in-Move
returns-in-Move c = rw c.in-Move.is c.link_moves.ensures.0

pub returns-in-UnrootedMove : goal.returns-in-UnrootedMove
returns-in-UnrootedMove c =
    rw c.in-UnrootedMove.is (unrooted-linked _ _ c.link_moves-in-UnrootedMove.ensures.0 (tested-linked Respun _ _ (λ a b r x. search (rules, x)) c.requires.0.noted c.link_tried.ensures))
