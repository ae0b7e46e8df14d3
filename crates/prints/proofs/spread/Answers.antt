use Rattle.std.proofs.Common.{refl, arith}
use Rattle.prints.specs.Print.{spread}
use Rattle.prints.proofs.Print.{spread-fits}
use Rattle.prints.proofs.spread.Goals as goal

pub overflow_mul-result : goal.overflow_mul-result
unfolding spread
overflow_mul-result c = omega (arith, spread-fits c.args.x)

pub returns : goal.returns
unfolding spread
returns c = refl
