use Rattle.std.proofs.Common.{◌+◌, ℕ, refl, ap, arith}
use Rattle.prints.proofs.Laws.{added_more, shared-room, share-fits, passed}
use Rattle.prints.proofs.pass.Goals as goal

pub loop-p-init : goal.loop-p-init
loop-p-init c = record { own = λ p f t. absurd (omega arith); others = λ p out. refl; long = refl }

pub overflow_sub-whole : goal.overflow_sub-whole
overflow_sub-whole c = omega (arith, c.requires.smaller c.loop-p.p (omega arith) c.loop-p-test.true)

pub overflow_add-rest-in-loop-p : goal.overflow_add-rest-in-loop-p
overflow_add-rest-in-loop-p c =
    omega (arith, ap (λ (v : ℕ). v + c.args.beside) c.spread.ensures, share-fits c.requires c.loop-p.invariant (omega arith) c.loop-p-test.true)

pub overflow_add-rest-in-loop-p-2 : goal.overflow_add-rest-in-loop-p-2
overflow_add-rest-in-loop-p-2 c =
    omega (arith, ap (λ (v : ℕ). v + c.args.beside) c.spread.ensures, share-fits c.requires c.loop-p.invariant (omega arith) c.loop-p-test.true)

pub loop-p-preserved : goal.loop-p-preserved
loop-p-preserved c =
    let inv = c.loop-p.invariant in
    let share-is = ap (λ (v : ℕ). v + c.args.beside) c.spread.ensures in
    added_more _ inv _ share-is (omega arith) (shared-room c.requires inv c.loop-p-test.true)

pub returns : goal.returns
returns c = passed c.requires c.loop-p.invariant (omega (arith, c.requires.some))
