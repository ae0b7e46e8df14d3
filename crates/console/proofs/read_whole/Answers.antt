-- What stood before a read and what came behind it is what the reader lost.
-- Assumes nothing.
use Rattle.std.proofs.Common.{◌∙◌, ◌≡◌, ◌+◌, ◌++◌, arith, drop, sym, ap, subst, take}
use Rattle.std.specs.Io.KnownBytes.{Consumes}
use Rattle.std.proofs.KnownBytes.{Consumes-trans}
use lib.Seq.{take-add}
use Rattle.console.proofs.read_whole.Goals as goal

pub loop-done-preserved : goal.loop-done-preserved
loop-done-preserved g c =
    let done = c.loop-done.done in
    let more = c.in_ok-more.more in
    let old = c.loop-done.buf in
    let new = c.read_behind.new.buf in
    let came = c.in_ok-more.ensures in
    let joined : take done old ++ take more (drop done new) ≡ take (done + more) new =
    ap (λ l. l ++ take more (drop done new)) (sym came.within.kept) ∙ sym (take-add done more new) in (
      omega (arith, came.within.within, came.within.same),
      subst (Consumes _ _) joined (Consumes-trans _ _ _ _ _ c.loop-done.invariant.1 came.bytes.0),
    )
