-- A line stands against the number, or its tree is removed.
use Rattle.std.proofs.Common.{refl, sym, ◌∙◌}
use Rattle.meaning.proofs.Lent.{enough-ample}
use Rattle.holdings.specs.IndexCalls.{index_slices}
use Rattle.index_calls.proofs.Calling.{remove-barred, allowed, remove-done, number-inside}
use Rattle.index_calls.proofs.index_remove_call.Goals as goal

pub returns-in-Some : goal.returns-in-Some
returns-in-Some c = rw c.at.ensures (remove-barred c.args.number c.args.memory.now c.enough-fits.result c.enough-fits.ensures c.in-Some.reason c.in-Some.ensures)

pub remove-requires : goal.remove-requires
remove-requires c =
    let (v, t, d, fits) = allowed c.in_default.ensures refl in
    record { slots = v.slots; index = v.index; long = enough-ample (index_slices c.args.memory.now) (sym c.enough-fits.ensures ∙ fits); inside = number-inside v c.args.number d }

pub returns : goal.returns
returns c =
    let (v, t, d, fits) = allowed c.in_default.ensures refl in
    remove-done c.args.number c.args.memory.now c.enough-fits.result c.enough-fits.ensures fits v d (c.remove.ensures v.slots v.index)
