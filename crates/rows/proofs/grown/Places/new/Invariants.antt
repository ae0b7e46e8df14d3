use Rattle.std.proofs.Common.{◌<◌, ◌≤◌, length}
use Rattle.rows.specs.Places.{Noted}
use Rattle.rows.proofs.grown.Places.new.Given as goal

abbrev pub invariant-loop-i : goal.invariant-loop-i
invariant-loop-i l = (0 < l.i) × (l.i ≤ length l.row) × Noted l.row l.i l.before l.last
