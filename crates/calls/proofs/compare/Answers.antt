-- The second tree can't stand beside the first, or they are compared.
use Rattle.std.proofs.Common.{refl}
use Rattle.tokens.proofs.Steps.{numbered}
use Rattle.calls.proofs.Pairing.{stand-apart, one-kind, answer-told}
use Rattle.calls.proofs.compare.Goals as goal

pub returns-in-Some : goal.returns-in-Some
returns-in-Some c x y k l = rw (c.of_second.ensures, c.at.ensures) (stand-apart x y c.args.second.behind (c.in-Some.ensures x y k l) (numbered c.in-Some.reason))

pub returns : goal.returns
returns c x y k l =
    let alike = c.in_default.ensures x y k l in
    answer-told x y c.args.second.behind alike refl c.one_move_apart.result (c.one_move_apart.ensures x y k l (one-kind x y c.args.second.behind alike refl))
