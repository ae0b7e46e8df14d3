use Rattle.std.proofs.Common.{◌+◌, ◌<◌, List, length, set, arith}
use Rattle.std.proofs.Math.ListN.{length-set}
use Rattle.chains.specs.Chains.{Last}
use Rattle.chains.proofs.Laws.{last_less}
use Rattle.meaning.specs.Tree.{Tree as Topology}
use Rattle.sharing.specs.Entries.{SameAs, Laid}
use Rattle.sharing.proofs.Sharing.{Shared, shared-past, entry-seeks, twins-linkable, shared-more}
use Rattle.sharing.proofs.link_sharing.Goals as goal
use Rattle.sharing.proofs.link_sharing.Goals.{then-keys-e-ne0, else-keys-e-ne0}

pub find_twin-requires : goal.find_twin-requires
find_twin-requires c =
    let p = c.requires in
    record { trees = p.trees; keys = c.args.keys.now; end = c.args.end; seeks = entry-seeks p.laid p.found p.few c.loop-e-test.true c.if-keys-e-ne0.true }

pub overflow_cast-twins : goal.overflow_cast-twins
overflow_cast-twins c =
    let p = c.requires in
    let S = entry-seeks p.laid p.found p.few c.loop-e-test.true c.if-keys-e-ne0.true in
    let twin : Last (SameAs p.trees c.loop-e.e) c.loop-e.e c.unwrap_or.result = rw c.unwrap_or.ensures (c.find_twin.ensures p.trees c.args.keys.now c.args.end S) in
    omega (arith, last_less (omega arith) twin)

pub link_back-requires : goal.link_back-requires
link_back-requires c =
    let p = c.requires in
    let inv = c.loop-e.invariant in
    let S = entry-seeks p.laid p.found p.few c.loop-e-test.true c.if-keys-e-ne0.true in
    let twin : Last (SameAs p.trees c.loop-e.e) c.loop-e.e c.unwrap_or.result = rw c.unwrap_or.ensures (c.find_twin.ensures p.trees c.args.keys.now c.args.end S) in
    record { trees = p.trees; linkable = twins-linkable p.laid.kept.few S.entry (omega arith) twin (inv.shared p.trees p.laid); square = inv.square }

pub loop-e-preserved : goal.loop-e-preserved
loop-e-preserved c =
    let p = c.requires in
    let inv = c.loop-e.invariant in
    let e = c.loop-e.e in
    elim c.if-keys-e-ne0.branch [
      | then-keys-e-ne0 w ↦
          let twins = set c.loop-e.twins e w.unwrap_or.result in
          let shared : (ts : List Topology) → Laid c.args.table.now ts c.args.keys.now → Shared ts w.link_back.new.links twins (e + 1) =
          λ ts L.
          let S = entry-seeks L p.found p.few c.loop-e-test.true w.if-keys-e-ne0.true in
          let twin : Last (SameAs ts e) e w.unwrap_or.result = rw w.unwrap_or.ensures (w.find_twin.ensures ts c.args.keys.now c.args.end S) in
          let room : e < length c.loop-e.twins = omega arith in
          shared-more L.kept.few S.entry room twin (inv.shared ts L) (w.link_back.ensures ts (twins-linkable L.kept.few S.entry room twin (inv.shared ts L))) in
          rw (w.links-is, w.twins-is) (record { square = (shared p.trees p.laid).shares.square; long = simp length-set inv.long; shared = shared })
      | else-keys-e-ne0 w ↦ rw (w.links-is, w.twins-is) (record { square = inv.square; long = inv.long; shared = λ ts L. shared-past L.keyed w.if-keys-e-ne0.false (inv.shared ts L) })
    ]
