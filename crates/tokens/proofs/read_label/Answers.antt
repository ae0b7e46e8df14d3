-- The rule does not allow the label, or it was read before, or it is the node at `at`.
use Rattle.std.proofs.Common.{false, refl, sym, ap, subst, ◌∙◌, get_or, arith}
use Rattle.meaning.specs.Tree.{leaf}
use Rattle.meaning.specs.Reading.{got, value}
use Rattle.meaning.proofs.Ways.{label-bad, label-again}
use Rattle.tokens.proofs.Meet.{Checked, checked, label-room, label-is, label-written}
use Rattle.tokens.proofs.read_label.Goals as goal
use Rattle.tokens.proofs.read_label.Goals.{Else-bad_label, Else-marks-v}

pub returns-then-bad_label : goal.returns-then-bad_label
returns-then-bad_label c = rw c.at.ensures (record { is = label-bad _ _ _ (sym (c.bad_label.ensures _ c.digit_run-run.ensures.value) ∙ c.if-bad_label.true); first = refl })

-- what is known of the label once its mark was read, and where that is free
known : (c : Else-bad_label) → Checked c.args.s.now c.args.q c.args.node.now c.args.at c.digit_run-run.result.value (get_or c.args.marks.now c.digit_run-run.result.value false)
known c = checked _ _ _ _ _ _ (sym (c.bad_label.ensures _ c.digit_run-run.ensures.value) ∙ c.if-bad_label.false) c.digit_run-run.ensures.value c.requires.marked

unseen : (c : Else-marks-v) → Checked c.args.s.now c.args.q c.args.node.now c.args.at c.digit_run-run.result.value false
unseen c = subst (Checked _ _ _ _ _) c.if-marks-v.false (known (goal.at.returns c).Else-bad_label)

pub bounds-marks-v : goal.bounds-marks-v
bounds-marks-v c = omega (arith, (known (goal.at.bounds-marks-v c).Else-bad_label).small)

pub returns-then-marks-v : goal.returns-then-marks-v
returns-then-marks-v c =
    let k = known (goal.at.returns-then-marks-v c).Else-bad_label in
    rw c.at-then-marks-v.ensures (record { is = label-again _ _ _ k.allowed (k.held ∙ c.if-marks-v.true); first = refl })

pub bounds-node-at : goal.bounds-node-at
bounds-node-at c = omega (arith, label-room (unseen c) c.requires)

pub bounds-marks-v-2 : goal.bounds-marks-v-2
bounds-marks-v-2 c = omega (arith, (unseen c).small)

pub overflow_add-result : goal.overflow_add-result
overflow_add-result c = omega (arith, label-room (unseen c) c.requires, c.requires.size)

pub returns : goal.returns
returns c = record {
  value = _;
  is = label-is (unseen c) c.requires ∙ ap (got (leaf (value c.args.s.now c.args.q))) (sym c.digit_run-run.ensures.end);
  keeps = label-written (unseen c) c.requires;
}
