-- Down the leftmost path the leaves fall.
use Rattle.std.proofs.Common.{◌∙◌, refl, sym}
use Rattle.held.specs.Node.{subtree}
use Rattle.held.specs.Turning.{deeper}
use Rattle.held.proofs.Subtree.{first-fewer}
use Rattle.held.proofs.Turning.{way-at}
use Rattle.held.proofs.turned.leftmost.Goals as goal

pub loop-first-smaller : goal.loop-first-smaller
loop-first-smaller c = first-fewer c.in-Fork.ensures

pub loop-first-preserved : goal.loop-first-preserved
loop-first-preserved c =
    let k = c.in-Fork.ensures in (
      k.first_in ∙ c.loop-first.invariant.0,
      λ t up way.
          let w = c.loop-first.invariant.1 t up way in
          (_, way-at k.first_at refl (deeper c.loop-first.node.at (subtree c.in-Fork.first) (subtree c.in-Fork.field-1) w.0 (way-at refl (sym k.is) w.1))),
    )
