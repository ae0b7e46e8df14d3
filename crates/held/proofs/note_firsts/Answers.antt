-- The first position before i whose record has the same bytes is the first copy, and where there is none, i is.
use Rattle.std.proofs.Common.{◌≡◌, ◌≤◌, true, false, refl, length, take, rules, arith}
use borrow.Author.Tests.{tests}
use Rattle.std.proofs.lemmas.Iterator.{YieldsList-from_slice, IsFirst-from_position}
use Rattle.meaning.specs.Lists.{positions}
use Rattle.meaning.specs.Copies.{first_of}
use Rattle.lent.proofs.Runs.{wrote-next}
use Rattle.held.proofs.Copies.{Alike, first_found}
use Rattle.held.proofs.note_firsts.Goals as goal

pub loop-i-init : goal.loop-i-init
unfolding positions
loop-i-init c ts k = record { behind = refl; cells = refl }

pub loop-i-preserved : goal.loop-i-preserved
loop-i-preserved c ts k =
    let i = c.loop-i.i in
    let table = c.args.table in
    let size : length c.args.table.trees ≡ 160 = search rules in
    let room : c.loop-i.i ≤ length c.args.table.trees = omega (arith, k.count, k.few) in
    let found = IsFirst-from_position _ _ c.position-first.result (Alike table i true) (Alike table i false) c.position-first.ensures.ran
    (YieldsList-from_slice (take i table.trees) c.iter.ensures.rest) (λ x q t. search (rules, tests)) (λ x q t. search (rules, tests)) in
    rw (c.unwrap_or.ensures, ← first_found c.loop-i-test.true room k c.position-first.result found) (wrote-next (first_of ts) i (c.loop-i.invariant ts k))
