-- A node from its first byte, and a fork from its nodes and tokens.
use Rattle.std.proofs.Common.{◌<◌, refl, sym, ◌∙◌, length, length-set, lit<, arith}
use Rattle.meaning.specs.Reading.{is_blank}
use Rattle.meaning.proofs.Scan.{inside, past-ge}
use Rattle.tokens.proofs.Draft.{less-room, open-room, draft-open}
use Rattle.tokens.proofs.Steps.{err-exit, then-got, then-refused}
use Rattle.reading.proofs.Fork.{fork-is, fork-first, second-behind, second-draft, fork-second, close-room, fork-written, fork-closes, via-label, via-deep, via-fork, via-wrong}
use Rattle.reading.proofs.+read_fork_read_node.Goals as goal

pub read_fork-bounds-node-at : goal.read_fork-bounds-node-at
read_fork-bounds-node-at t c = open-room c.requires

pub read_fork-overflow_add-at : goal.read_fork-overflow_add-at
read_fork-overflow_add-at t c = omega (arith, open-room c.requires, c.requires.size)

pub read_fork-read_node-requires : goal.read_fork-read_node-requires
read_fork-read_node-requires t c = (omega arith, draft-open c.requires)

pub read_fork-returns-in_err-first : goal.read_fork-returns-in_err-first
read_fork-returns-in_err-first t c =
    let a = c.args in
    err-exit _ _ _ c.from_residual.ensures.1 (rw (fork-is a.s.now a.from a.room c.requires) (then-refused _ c.in_err-first.ensures))

pub read_fork-returns-in_err-comma : goal.read_fork-returns-in_err-comma
read_fork-returns-in_err-comma t c =
    let a = c.args in
    err-exit _ _ _ c.from_residual-in_err-comma.ensures.1 (rw (fork-first a.s.now a.from a.room c.requires c.in_ok-first.ensures) (then-refused _ c.in_err-comma.ensures))

pub read_fork-read_node-requires-2 : goal.read_fork-read_node-requires-2
read_fork-read_node-requires-2 t c =
    let a = c.args in
    (omega (arith, second-behind a.s.now a.from a.room c.requires c.in_ok-first.ensures c.in_ok-comma.ensures), second-draft a.s.now a.from a.room c.requires c.in_ok-first.ensures c.in_ok-comma.ensures)

pub read_fork-returns-in_err-second : goal.read_fork-returns-in_err-second
read_fork-returns-in_err-second t c =
    let a = c.args in
    err-exit _ _ _ c.from_residual-in_err-second.ensures.1
    (rw (fork-second a.s.now a.from a.room c.requires c.in_ok-first.ensures c.in_ok-comma.ensures) (then-refused _ c.in_err-second.ensures))

pub read_fork-fork_byte-requires : goal.read_fork-fork_byte-requires
read_fork-fork_byte-requires t c =
    let a = c.args in
    close-room a.s.now a.from a.room c.requires c.in_ok-first.ensures c.in_ok-comma.ensures c.in_ok-second.ensures (c.read_node.auto.node ∙ length-set a.node.now a.at 0)

pub read_fork-bounds-node-at-2 : goal.read_fork-bounds-node-at-2
read_fork-bounds-node-at-2 t c = omega (arith, open-room c.requires, c.read_node.auto.node ∙ length-set c.args.node.now c.args.at 0, c.read_node-2.auto.node)

pub read_fork-returns-in_err-expect_byte : goal.read_fork-returns-in_err-expect_byte
read_fork-returns-in_err-expect_byte t c =
    let a = c.args in
    err-exit _ _ _ c.from_residual-in_err-expect_byte.ensures.1
    (rw (fork-closes a.s.now a.from a.room c.requires c.in_ok-first.ensures c.in_ok-comma.ensures c.in_ok-second.ensures) (then-refused _ c.in_err-expect_byte.ensures))

pub read_fork-returns : goal.read_fork-returns
read_fork-returns t c =
    let a = c.args in
    record {
      value = _;
      is = fork-closes a.s.now a.from a.room c.requires c.in_ok-first.ensures c.in_ok-comma.ensures c.in_ok-second.ensures ∙ then-got _ c.in_ok-expect_byte.ensures.is;
      keeps = fork-written a.s.now a.from a.room c.requires c.in_ok-first.ensures c.in_ok-comma.ensures c.in_ok-second.ensures c.fork_byte.result c.fork_byte.ensures;
    }

pub read_node-returns-then-is_digit : goal.read_node-returns-then-is_digit
read_node-returns-then-is_digit t c =
    rw (via-label c.args.s.now c.args.from c.skip_blanks-q.ensures c.byte_at-b.ensures c.is_digit.ensures c.args.room _ c.if-is_digit.true) c.read_label.ensures

pub read_node-returns-then-too_deep : goal.read_node-returns-then-too_deep
read_node-returns-then-too_deep t c = rw c.at.ensures (record {
  is = via-deep c.args.s.now c.args.from c.skip_blanks-q.ensures c.byte_at-b.ensures c.is_digit.ensures c.args.room _ c.if-is_digit.false c.if-opens.true c.if-too_deep.true;
  first = refl;
})

pub read_node-read_fork-requires : goal.read_node-read_fork-requires
read_node-read_fork-requires t c =
    let l : c.skip_blanks-q.result < length c.args.s.now = inside c.args.s.now c.skip_blanks-q.result (sym c.byte_at-b.ensures ∙ c.if-opens.true) (lit< tt) in
    (omega (arith, past-ge is_blank c.args.s.now c.args.from, c.if-too_deep.false), less-room c.requires (omega (arith, c.if-too_deep.false)))

pub read_node-returns-then-opens : goal.read_node-returns-then-opens
read_node-returns-then-opens t c =
    rw (via-fork c.args.s.now c.args.from c.skip_blanks-q.ensures c.byte_at-b.ensures c.is_digit.ensures c.args.room _ c.if-is_digit.false c.if-opens.true c.if-too_deep.false) c.read_fork.ensures

pub read_node-returns : goal.read_node-returns
read_node-returns t c = rw c.at-2.ensures (record {
  is = via-wrong c.args.s.now c.args.from c.skip_blanks-q.ensures c.byte_at-b.ensures c.is_digit.ensures c.args.room _ c.if-is_digit.false c.if-opens.false;
  first = refl;
})
