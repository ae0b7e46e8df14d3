use Rattle.chains.proofs.Laws.{state-begins}
use Rattle.chains.proofs.note_same.Goals as goal

pub loop-e-init : goal.loop-e-init
loop-e-init c = state-begins c.args.keys.now c.args.same.now c.requires.1
