use Rattle.std.proofs.Common.{◌<◌, length, sym, arith, ◌∙◌}
use Rattle.meaning.specs.Listing.{tree_of}
use Rattle.sharing.proofs.Rows.{laid-copy, laid-first}
use Rattle.sharing.proofs.lay_out.Goals as goal
use Rattle.sharing.proofs.lay_out.Goals.{then-firsts-i, else-firsts-i}

pub loop-i-preserved : goal.loop-i-preserved
loop-i-preserved c =
    let i = c.loop-i.i in
    let inv = c.loop-i.invariant in
    let noted = c.requires.noted in
    record {
      long = omega (arith, inv.long);
      laid = λ ts h.
          let inside : i < length ts = omega (arith, h.count, c.loop-i-test.true) in
          let K = h.each i inside in
          elim c.if-firsts-i.branch [
            | then-firsts-i w ↦ rw w.keys-is (laid-first (sym (noted ts h i inside) ∙ w.if-firsts-i.true) inside K.good (w.note_keys.ensures (tree_of ts i) K) (inv.laid ts h))
            | else-firsts-i w ↦ rw w.keys-is (laid-copy (λ e. w.if-firsts-i.false (noted ts h i inside ∙ e)) (inv.laid ts h))
          ];
    }
