use Rattle.std.proofs.Common.{refl}
use Rattle.prints.specs.Print.{folded}
use Rattle.prints.proofs.folded.Goals as goal

pub returns : goal.returns
unfolding folded
returns c = refl
