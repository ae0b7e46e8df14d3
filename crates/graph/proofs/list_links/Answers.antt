use Rattle.std.proofs.Common.{◌≡◌, refl, List, [], ℕ, ◌-◌, replicate, arith}
use Rattle.std.proofs.lemmas.List.Edits.{sets}
use native.Mathlib.Nat.{sub-zero}
use lib.ListN.{length-replicate}
use Rattle.meaning.proofs.Listing.{pairs-step, pairs_end}
use Rattle.lent.specs.Runs.{Wrote}
use Rattle.graph.proofs.Turns.{none-listed, part-more, part-ends, next-room, all_room, graph-listed}
use Rattle.graph.proofs.list_links.Goals as goal

-- as many zeros as there are positions are written from the start on
filled : {counts counts' : List ℕ} {n : ℕ} → counts' ≡ sets counts 0 (replicate (n - 0) 0) → Wrote (replicate n 0) counts counts' 0 n
filled {n} e = record { behind = omega (arith, length-replicate {A = ℕ} n 0); cells = rw sub-zero at e }

pub loop-i-init : goal.loop-i-init
loop-i-init c = record { done = []; whole = refl; listed = none-listed }

pub list_row-m-requires : goal.list_row-m-requires
list_row-m-requires c =
    let inside = c.loop-i-test.true in
    (inside, next-room c.loop-i.invariant _ (pairs-step _ _ _ inside) (all_room c.args.links.now c.args.n c.requires.0 c.requires.1 (filled c.fill.ensures)))

pub loop-i-preserved : goal.loop-i-preserved
loop-i-preserved c = part-more c.loop-i.invariant (pairs-step _ _ _ c.loop-i-test.true) c.list_row-m.ensures

pub returns : goal.returns
returns c =
    let all = part-ends c.loop-i.invariant (pairs_end _ _ _ c.loop-i-test.false) in
    graph-listed c.args.links.now c.args.n c.requires.0 c.requires.1 (filled c.fill.ensures) all
