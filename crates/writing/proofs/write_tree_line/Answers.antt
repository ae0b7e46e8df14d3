use Rattle.std.proofs.Common.{arith}
use Rattle.lent.proofs.Runs.{wrote-length}
use Rattle.writing.proofs.Lines.{tree-length, tree-wrote}
use Rattle.writing.proofs.write_tree_line.Goals as goal

pub write_field-linked-requires : goal.write_field-linked-requires
write_field-linked-requires c =
    let a = c.args in
    let x = c.requires.kinded in
    omega (arith, c.requires.room, tree-length x.kind a.position a.neighbours a.unlinked x.tree)

pub write_field-apart-requires : goal.write_field-apart-requires
write_field-apart-requires c =
    let a = c.args in
    let x = c.requires.kinded in
    let u = c.write_field-linked.ensures in
    omega (arith, c.requires.room, tree-length x.kind a.position a.neighbours a.unlinked x.tree, u.behind, wrote-length u)

pub write_field-space-requires : goal.write_field-space-requires
write_field-space-requires c =
    let a = c.args in
    let x = c.requires.kinded in
    let u = c.write_field-linked.ensures in
    let v = c.write_field-apart.ensures in
    omega (arith, c.requires.room, tree-length x.kind a.position a.neighbours a.unlinked x.tree, u.behind, wrote-length u, v.behind, wrote-length v)

pub write_text-form-requires : goal.write_text-form-requires
write_text-form-requires c =
    let a = c.args in
    let x = c.requires.kinded in
    let u = c.write_field-linked.ensures in
    let v = c.write_field-apart.ensures in
    let w = c.write_field-space.ensures in
    omega (arith, c.requires.room, tree-length x.kind a.position a.neighbours a.unlinked x.tree, u.behind, wrote-length u, v.behind, wrote-length v, w.behind, wrote-length w)

pub write_form-end-requires : goal.write_form-end-requires
write_form-end-requires c =
    let a = c.args in
    let p = c.requires in
    let x = p.kinded in
    let u = c.write_field-linked.ensures in
    let v = c.write_field-apart.ensures in
    let w = c.write_field-space.ensures in
    let s = c.write_text-form.ensures in
    record {
      kinded = x;
      keeps = p.keeps;
      room = omega (arith, p.room, tree-length x.kind a.position a.neighbours a.unlinked x.tree, u.behind, wrote-length u, v.behind, wrote-length v, w.behind, wrote-length w, s.behind, wrote-length s);
    }

pub write_text-requires : goal.write_text-requires
write_text-requires c =
    let a = c.args in
    let p = c.requires in
    let x = p.kinded in
    let u = c.write_field-linked.ensures in
    let v = c.write_field-apart.ensures in
    let w = c.write_field-space.ensures in
    let s = c.write_text-form.ensures in
    let t = c.write_form-end.ensures x p.keeps in
    omega (arith, p.room, tree-length x.kind a.position a.neighbours a.unlinked x.tree, u.behind, wrote-length u, v.behind, wrote-length v, w.behind, wrote-length w, s.behind, wrote-length s, t.behind, wrote-length t)

pub returns : goal.returns
returns c x k =
    let a = c.args in
    tree-wrote x.kind a.position a.neighbours a.unlinked x.tree c.write_field-linked.ensures c.write_field-apart.ensures
    c.write_field-space.ensures c.write_text-form.ensures (c.write_form-end.ensures x k) c.write_text.ensures
