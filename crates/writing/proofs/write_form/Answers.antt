use Rattle.std.proofs.Common.{[], ◌∷◌, length, ap, arith}
use Rattle.std.proofs.Math.ListN.{length-append}
use Rattle.meaning.specs.Tree.{canon}
use Rattle.meaning.specs.EitherKind.{write_as}
use Rattle.lent.proofs.Runs.{wrote_one, wrote-more, wrote-length}
use Rattle.writing.proofs.Unrooted.{form-text}
use Rattle.writing.proofs.write_form.Goals as goal

pub write_tree-end-requires : goal.write_tree-end-requires
write_tree-end-requires c =
    let p = c.requires in
    let x = p.kinded in
    record { kinded = x; keeps = p.keeps; room = omega (arith, p.room, ap length (form-text p.keeps), length-append (write_as x.kind (canon x.tree)) (59 ∷ [])) }

pub bounds-out-end : goal.bounds-out-end
bounds-out-end c =
    let p = c.requires in
    let x = p.kinded in
    let w = c.write_tree-end.ensures x p.keeps in
    omega (arith, p.room, ap length (form-text p.keeps), length-append (write_as x.kind (canon x.tree)) (59 ∷ []), w.behind, wrote-length w)

pub overflow_add-result : goal.overflow_add-result
overflow_add-result c =
    let p = c.requires in
    let x = p.kinded in
    let w = c.write_tree-end.ensures x p.keeps in
    omega (arith, p.room, ap length (form-text p.keeps), length-append (write_as x.kind (canon x.tree)) (59 ∷ []), w.behind, wrote-length w)

pub returns : goal.returns
returns c x k = rw (form-text k) (wrote-more (c.write_tree-end.ensures x k) (wrote_one c.write_tree-end.new.out c.write_tree-end.result 59))
