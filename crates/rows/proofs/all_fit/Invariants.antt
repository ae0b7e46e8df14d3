use Rattle.std.proofs.Common.{◌≡◌, drop}
use Rattle.families.specs.Row.{all_fit}
use Rattle.rows.proofs.all_fit.Given as goal

abbrev pub invariant-loop-i : goal.invariant-loop-i
invariant-loop-i l = all_fit l.clades ≡ all_fit (drop l.i l.clades)
