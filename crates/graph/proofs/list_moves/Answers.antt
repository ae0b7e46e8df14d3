use Rattle.std.proofs.Common.{ap, ◌∙◌}
use Rattle.graph.specs.Copies.{move_of}
use Rattle.graph.proofs.Moves.{moves-written}
use Rattle.graph.proofs.list_moves.Goals as goal

pub returns : goal.returns
returns c =
    moves-written c.move_of-by.result c.args.copies (λ ts h. c.move_of-by.ensures ∙ ap move_of (c.kind.ensures ts h)) c.list_pairs.ensures
