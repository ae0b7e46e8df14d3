-- The entries that are passed have the text, and their trees are marked.
use Rattle.asking.proofs.Searching.{Walked}
use Rattle.asking.proofs.mark_text.Given as goal

abbrev pub invariant-loop-k : goal.invariant-loop-k
invariant-loop-k l = Walked l.slots l.text l.initial.k l.k l.initial.marks l.marks
