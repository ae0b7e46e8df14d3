-- The run behind `from` ends where that behind `end` does, and its value goes on from `value`, both held down.
use Rattle.std.proofs.Common.{◌≡◌, ◌-◌, ◌≤◌, min, length, drop}
use Rattle.meaning.specs.Reading.{is_digit, past, value, value_after}
use Rattle.tokens.specs.Draft.{too_large}
use Rattle.tokens.proofs.digit_run.Given as goal

abbrev pub invariant-loop-end : goal.invariant-loop-end
invariant-loop-end l = record {
  end : past is_digit l.s l.from ≡ past is_digit l.s l.end;
  value : min too_large (value l.s l.from) ≡ min too_large (value_after l.value (drop l.end l.s));
  low : l.value ≤ too_large;
}

abbrev pub decreases-loop-end : goal.decreases-loop-end
decreases-loop-end l = length l.s - l.end
