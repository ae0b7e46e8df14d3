-- A refusal has a number.
use Rattle.std.proofs.Common.{refl}
use Rattle.replies.proofs.LongReplies.{said-refused}
use Rattle.replies.proofs.clade_replies.support_reply.Goals as goal

pub returns-in-Err : goal.returns-in-Err
returns-in-Err c = rw c.in-Err.is (said-refused c.in-Err.x (rw (c.number.ensures, c.from.ensures) refl))
