-- Behind no tree, and behind the first.
use Rattle.std.proofs.Common.{ℕ, ◌≡◌, ◌<◌, arith}
use Rattle.held.proofs.Kept.{kept_at}
use Rattle.reading.specs.Whole.{takes_of}
use Rattle.tables.proofs.Turns.{like-none, like-some}
use Rattle.tables.proofs.like_first.Goals as goal

pub returns-then-table-eq0 : goal.returns-then-table-eq0
returns-then-table-eq0 c xs x h k = like-none (takes_of c.args.takes) xs x c.args.table c.args.tree _ h k c.if-table-eq0.true c.untaken.ensures

not_none : {n : ℕ} → (n ≡ 0 → ⊥) → 0 < n
not_none h = omega (arith, h)

pub unlike-requires : goal.unlike-requires
unlike-requires c = (kept_at c.requires.0 0 (not_none c.if-table-eq0.false), c.requires.1)

pub returns : goal.returns
returns c xs x h k = like-some (takes_of c.args.takes) xs x c.args.table _ h c.if-table-eq0.false (λ first f. c.unlike.ensures first x f k)
