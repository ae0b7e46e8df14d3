-- Either the one side is moved or the other.
use Rattle.std.proofs.Common.{inr}
use Rattle.meaning.specs.Tree.{canon}
use Rattle.lent.proofs.Says.{said, denied, affirm}
use Rattle.unrooted.specs.Apart.{OtherRoot, ApartHung}
use Rattle.unrooted.proofs.Apart.{either-says}
use Rattle.unrooted.proofs.one_move_apart.Goals as goal

pub returns-then-respun : goal.returns-then-respun
returns-then-respun c t u k l =
    affirm (ApartHung t u) c.if-respun.true (inr (said (OtherRoot (canon t) (canon u)) c.if-respun.true (c.respun.ensures t u k l)))

pub returns-else-respun : goal.returns-else-respun
returns-else-respun c t u k l =
    let moved = c.one_move_apart in
    either-says t u (denied (OtherRoot (canon t) (canon u)) c.if-respun.false (c.respun.ensures t u k l)) moved.result.yes (moved.ensures t u k l).apart
