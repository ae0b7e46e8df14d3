use Rattle.std.proofs.Common.{◌≡◌, ◌<◌, length, take, get_or, map, arith, sym, subst}
use lib.ListN.{length-map, get_or-map}
use lib.Seq.{get_or-take}
use Rattle.std.proofs.lemmas.List.{length-take}
use Rattle.meaning.specs.Tree.{leaf, canon}
use Rattle.meaning.specs.Listing.{tree_of}
use Rattle.meaning.proofs.Canon.{canon-good}
use Rattle.lent.proofs.Runs.{wrote-length}
use Rattle.held.proofs.Kept.{kept_at}
use Rattle.held.specs.Kept.{Kept, Keeps}
use Rattle.held.specs.declared.Tree.{Tree}
use Rattle.support.proofs.Pooled.{gathering-none, gathering-more, gathering-all}
use Rattle.support.proofs.gather.gather.Goals as goal
use Rattle.support.proofs.gather.gather.Goals.{In-loop-tree}

few : (u : In-loop-tree) → u.loop-tree.tree-index < u.args.table.len
few u = omega (arith, u.loop-tree-test.true, length-take u.args.table.len u.args.table.trees)

-- the tree of this turn is that of the table
same : (u : In-loop-tree) (d : Tree) → get_or (take u.args.table.len u.args.table.trees) u.loop-tree.tree-index d ≡ get_or u.args.table.trees u.loop-tree.tree-index d
same u d = get_or-take u.args.table.len u.args.table.trees u.loop-tree.tree-index d (few u)

pub loop-tree-init : goal.loop-tree-init
loop-tree-init c = record { few = omega arith; so = λ ts h. gathering-none (map canon ts) c.args.xs.now }

pub note_clades-next-requires : goal.note_clades-next-requires
note_clades-next-requires c =
    let u = (goal.at.note_clades-next-requires c).In-loop-tree in
    let p = c.requires.0 in
    let known = c.loop-tree.invariant.so p.trees p.keeps in
    record {
      kept = subst Kept (sym (same u _)) (kept_at p c.loop-tree.tree-index (few u));
      room = omega (arith, known.few, few u, p.keeps.count, p.keeps.few, wrote-length known.wrote, c.requires.1);
    }

pub loop-tree-preserved : goal.loop-tree-preserved
loop-tree-preserved c =
    let u = (goal.at.loop-tree-preserved c).In-loop-tree in
    let i = c.loop-tree.tree-index in
    record {
      few = omega (arith, few u);
      so = λ ts h.
          let inside : i < length ts = omega (arith, h.count, few u) in
          let k = h.each i inside in
          gathering-more (c.loop-tree.invariant.so ts h) (omega (arith, length-map ts canon)) (get_or-map canon ts i (leaf 0)) (canon-good k.good) (c.note_clades-next.ensures (tree_of ts i) (subst (λ x. Keeps x (tree_of ts i)) (sym (same u _)) k));
    }

pub returns : goal.returns
returns c ts h = gathering-all (c.loop-tree.invariant.so ts h) (omega (arith, length-map ts canon, h.count, c.loop-tree-test.false))
