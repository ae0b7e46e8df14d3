-- What is left of n is written for the positions that are passed.
use Rattle.std.proofs.Common.{◌-◌, List, ℕ, map, get_or}
use Rattle.meaning.specs.Lists.{positions}
use Rattle.lent.specs.Runs.{Wrote}
use Rattle.sheet.proofs.note_unlinked.Given as goal

-- what is left of n at a position
abbrev pub left : List ℕ → ℕ → List ℕ → List ℕ → ℕ → ℕ
left counts n firsts copies j = n - get_or counts j 0 - get_or copies (get_or firsts j 0) 0

abbrev pub invariant-loop-i : goal.invariant-loop-i
invariant-loop-i l = Wrote (map (left l.counts l.n l.firsts l.copies) (positions l.i)) l.fn.unlinked l.unlinked 0 l.i
