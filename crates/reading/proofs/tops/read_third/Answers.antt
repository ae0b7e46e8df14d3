-- Two labels and their bracket, or a third node.
use Rattle.std.proofs.Common.{◌≡◌, sym, ◌∙◌}
use Rattle.tokens.proofs.Meet.{byte-is}
use Rattle.tokens.proofs.Steps.{err-exit, then-got, then-refused}
use Rattle.meaning.specs.Reading.{byte_at, skip}
use Rattle.reading.proofs.Three.{third-closed, half_room, top-room, half-in-third, third-stands, third-is, third-rest, third-closes}
use Rattle.reading.proofs.tops.read_third.Goals as goal
use Rattle.reading.proofs.tops.read_third.Goals.{Joined-two_labels, then-two_labels+else-byte_at-eq41, else-two_labels}

-- these are not two labels with `)` behind them
more : (c : Joined-two_labels) → c.args.end ≡ 4 → byte_at c.args.s.now (skip c.args.s.now c.args.from) ≡ 41 → ⊥
more c e f =
    elim c.if-two_labels.branch [
      | then-two_labels+else-byte_at-eq41 w ↦ w.if-byte_at-eq41.false (sym (byte-is c.args.s.now c.args.from w.skip_blanks-q.ensures w.byte_at.ensures) ∙ f)
      | else-two_labels w ↦ w.if-two_labels.false e
    ]

pub returns-then-byte_at-eq41 : goal.returns-then-byte_at-eq41
returns-then-byte_at-eq41 c a b h =
    third-closed c.args.s.now c.args.from h c.if-two_labels.true c.skip_blanks-q.ensures c.byte_at.ensures c.if-byte_at-eq41.true c.fork_byte.ensures

pub returns-in_err-comma : goal.returns-in_err-comma
returns-in_err-comma c a b h =
    err-exit _ _ _ c.from_residual.ensures.1
    (rw (third-is c.args.s.now c.args.from h (more (goal.at.returns-in_err-comma c).Joined-two_labels)) (then-refused _ c.in_err-comma.ensures))

pub returns-in_err-third : goal.returns-in_err-third
returns-in_err-third c a b h =
    err-exit _ _ _ c.from_residual-in_err-third.ensures.1
    (rw (third-rest c.args.s.now c.args.from h (more (goal.at.returns-in_err-third c).Joined-two_labels) c.in_ok-comma.ensures) (then-refused _ c.in_err-third.ensures))

pub fork_byte-requires-2 : goal.fork_byte-requires-2
fork_byte-requires-2 c = half_room c.args.s.now c.args.from c.requires.halves _ c.in_ok-third.ensures

pub bounds-node-half : goal.bounds-node-half
bounds-node-half c = half-in-third c.args.s.now c.args.from c.requires.halves _ c.in_ok-third.ensures c.read_node.auto.node

pub fork_byte-requires-3 : goal.fork_byte-requires-3
fork_byte-requires-3 c = top-room c.args.s.now c.args.from c.requires.halves _ c.in_ok-third.ensures

pub returns-in_err-expect_byte : goal.returns-in_err-expect_byte
returns-in_err-expect_byte c a b h =
    err-exit _ _ _ c.from_residual-in_err-expect_byte.ensures.1
    (rw (third-closes c.args.s.now c.args.from h (more (goal.at.returns-in_err-expect_byte c).Joined-two_labels) c.in_ok-comma.ensures c.in_ok-third.ensures.is) (then-refused _ c.in_err-expect_byte.ensures))

pub returns : goal.returns
returns c a b h = record {
  value = _;
  is = third-closes c.args.s.now c.args.from h (more (goal.at.returns c).Joined-two_labels) c.in_ok-comma.ensures c.in_ok-third.ensures.is ∙ then-got _ c.in_ok-expect_byte.ensures.is;
  keeps = third-stands c.args.s.now c.args.from h _ c.in_ok-third.ensures _ _ c.fork_byte-2.ensures c.fork_byte-3.ensures;
}
