-- The nodes below the child that are passed got their share.
use Rattle.prints.specs.Rest.{Added, share}
use Rattle.prints.proofs.pass.Given as goal

abbrev pub invariant-loop-p : goal.invariant-loop-p
invariant-loop-p l = Added (share l.m l.whole l.beside) l.from l.p l.initial.rest l.rest
