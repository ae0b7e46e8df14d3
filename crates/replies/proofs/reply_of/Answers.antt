-- A refusal has a number.
use Rattle.std.proofs.Common.{refl}
use Rattle.replies.proofs.Replies.{said-refused}
use Rattle.replies.proofs.reply_of.Goals as goal

pub returns-in-Err : goal.returns-in-Err
returns-in-Err g c = rw c.in-Err.is (said-refused g.T.Numbers.value c.in-Err.x (rw (c.number.ensures, c.from.ensures) refl))
