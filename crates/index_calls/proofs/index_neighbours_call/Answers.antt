-- A line stands against the number, or its neighbours are listed.
use Rattle.std.proofs.Common.{◌≡◌, refl, sym, ◌∙◌}
use Rattle.meaning.specs.Calls.{enough}
use Rattle.meaning.proofs.Lent.{enough-ample}
use Rattle.holdings.specs.IndexCalls.{ask_slices}
use Rattle.index_calls.proofs.Calling.{ask-barred, allowed, ask-listed, number-inside}
use Rattle.index_calls.proofs.index_neighbours_call.Goals as goal
use Rattle.index_calls.proofs.index_neighbours_call.Goals.{After-enough-fits}

-- both sizes are looked at
told : (e : After-enough-fits) → e.enough-fits.result ≡ enough (ask_slices e.args.memory.now e.args.list.now)
told e = rw e.enough-list_fits.ensures at e.enough-fits.ensures

pub returns-in-Some : goal.returns-in-Some
returns-in-Some c = rw c.at.ensures (ask-barred c.args.number c.args.memory.now c.args.list.now c.enough-fits.result (told (goal.at.returns-in-Some c).After-enough-fits) c.in-Some.reason c.in-Some.ensures)

pub list_neighbours-requires : goal.list_neighbours-requires
list_neighbours-requires c =
    let (v, t, d, fits) = allowed c.in_default.ensures refl in
    let room = enough-ample (ask_slices c.args.memory.now c.args.list.now) (sym (told (goal.at.list_neighbours-requires c).After-enough-fits) ∙ fits) in
    (record { valid = v; long = room.0; inside = number-inside v c.args.number d }, room.1)

pub returns : goal.returns
returns c =
    let (v, t, d, fits) = allowed c.in_default.ensures refl in
    let is = told (goal.at.returns c).After-enough-fits in
    let room = enough-ample (ask_slices c.args.memory.now c.args.list.now) (sym is ∙ fits) in
    ask-listed c.args.number c.args.memory.now c.args.list.now c.enough-fits.result is fits room.1 v d (c.list_neighbours.ensures v.slots v.index)
