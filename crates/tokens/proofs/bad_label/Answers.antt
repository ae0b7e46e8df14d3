-- A value that is held down above the largest label is above it where the value is.
use Rattle.std.proofs.Common.{ℕ, ◌≡◌, ◌≤◌, min, arith}
use native.Mathlib.Decide.{dec_le}
use borrow.Author.Tests.{lt-ltb, le-ltb}
use lib.Dec.{ltb}
use Rattle.meaning.specs.Limits.{max_label}
use Rattle.meaning.specs.Reading.{bad_label}
use Rattle.tokens.specs.Draft.{too_large}
use Rattle.tokens.proofs.bad_label.Goals as goal

held_down : (most v w : ℕ) → most ≡ max_label → v ≡ min too_large w → ltb most v ≡ ltb max_label w
held_down most v w e h = by (dec_le w max_label)
  where
    by : Dec (w ≤ max_label) → ltb most v ≡ ltb max_label w
    by (yes l) = rw (le-ltb most v (omega arith), le-ltb max_label w l)
    by (no l) = rw (lt-ltb most v (omega arith), lt-ltb max_label w (omega arith))

pub returns-then-low : goal.returns-then-low
unfolding bad_label
returns-then-low c w e = rw (lt-ltb c.args.v 1 c.if-low.true, lt-ltb w 1 (omega (arith, c.if-low.true)))

pub returns-else-low : goal.returns-else-low
unfolding bad_label
returns-else-low c w e = rw (le-ltb w 1 (omega (arith, c.if-low.false))) (held_down _ _ w c.from.ensures e)
