-- What refuses a tree before it is looked at beside the held ones, and what it is then.
use Rattle.std.proofs.Common.{sym}
use Rattle.meaning.proofs.Lent.{enough-ample}
use Rattle.holdings.specs.IndexCalls.{index_slices}
use Rattle.tokens.proofs.Steps.{err-is}
use Rattle.calls.proofs.Pairing.{read_kept, read_some}
use Rattle.index_calls.proofs.Calling.{add-short, add-long, add-foreign, add-denied, add-taken}
use Rattle.index_calls.proofs.index_add_call.Goals as goal

pub returns-then-not-enough : goal.returns-then-not-enough
returns-then-not-enough c = rw c.at.ensures (add-short c.args.s.now c.args.memory.now (sym c.if-not-enough.ensures))

pub returns-then-s-gt-TEXT_BYTES : goal.returns-then-s-gt-TEXT_BYTES
returns-then-s-gt-TEXT_BYTES c = rw c.at-then-s-gt-TEXT_BYTES.ensures (add-long c.args.s.now c.args.memory.now (sym c.if-not-enough.ensures) c.if-s-gt-TEXT_BYTES.true)

pub returns-then-not-is_index : goal.returns-then-not-is_index
returns-then-not-is_index c =
    rw c.at-then-not-is_index.ensures (add-foreign c.args.s.now c.args.memory.now (sym c.if-not-enough.ensures) c.if-s-gt-TEXT_BYTES.false c.if-not-is_index.ensures)

pub returns-in_err-read : goal.returns-in_err-read
returns-in_err-read c =
    rw (err-is c.from_residual.result c.from_residual.ensures.1)
    (add-denied c.args.s.now c.args.memory.now (sym c.if-not-enough.ensures) c.if-s-gt-TEXT_BYTES.false c.if-not-is_index.ensures _ c.in_err-read.ensures)

pub add_read-requires : goal.add_read-requires
add_read-requires c =
    (c.if-not-is_index.ensures, enough-ample (index_slices c.args.memory.now) (sym c.if-not-enough.ensures), read_kept c.args.s.now c.in_ok-read.ensures, read_some c.args.s.now c.in_ok-read.ensures)

pub returns : goal.returns
returns c = add-taken c.args.s.now c.args.memory.now (sym c.if-not-enough.ensures) c.if-s-gt-TEXT_BYTES.false c.if-not-is_index.ensures c.in_ok-read.ensures c.add_read.ensures
