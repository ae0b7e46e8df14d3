-- A token stands behind blanks.
use Rattle.tokens.proofs.Meet.{token-exactly}
use Rattle.tokens.proofs.expect_byte.Goals as goal

pub returns : goal.returns
returns c = rw (← token-exactly c.args.b c.args.s.now c.args.from, ← c.skip_blanks.ensures) c.expect_exactly.ensures
