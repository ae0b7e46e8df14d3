-- The texts and ends of the first i trees are written.
use Rattle.calls.specs.Tabled.{text_slices}
use Rattle.calls.proofs.Tabling.{Part}
use Rattle.calls.proofs.write_texts.Given as goal

abbrev pub invariant-loop-i : goal.invariant-loop-i
invariant-loop-i l = Part l.table (text_slices l.initial.texts l.initial.ends) (text_slices l.texts l.ends) l.at l.i
