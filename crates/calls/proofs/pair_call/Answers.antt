-- Either text is too long, text 0 is refused, or text 1 is read beside its tree.
use Rattle.std.proofs.Common.{rules}
use Rattle.calls.proofs.Pairing.{pair-long, pair-long-second, read_kept, pair-refused, pair_read}
use Rattle.tokens.proofs.Steps.{err-is}
use Rattle.calls.proofs.pair_call.Goals as goal

pub returns-then-first-gt-TEXT_BYTES : goal.returns-then-first-gt-TEXT_BYTES
returns-then-first-gt-TEXT_BYTES c = rw c.at.ensures (pair-long c.args.first.now c.args.second.now c.if-first-gt-TEXT_BYTES.true)

pub returns-then-second_is_long : goal.returns-then-second_is_long
returns-then-second_is_long c =
    let long = pair-long-second c.args.first.now c.args.second.now c.if-first-gt-TEXT_BYTES.false c.if-second_is_long.true in
    search (rules, long)

pub returns-in_err-read : goal.returns-in_err-read
returns-in_err-read c =
    rw (err-is c.from_residual.result c.from_residual.ensures.1, c.in_err-read.ensures.first)
    (pair-refused c.args.first.now c.args.second.now c.if-first-gt-TEXT_BYTES.false c.if-second_is_long.false c.in_err-read.ensures)

pub compare_with_text-requires : goal.compare_with_text-requires
compare_with_text-requires c = read_kept c.args.first.now c.in_ok-read.ensures

pub returns : goal.returns
returns c = pair_read c.args.first.now c.args.second.now c.if-first-gt-TEXT_BYTES.false c.if-second_is_long.false c.in_ok-read.ensures c.compare_with_text.ensures
