-- What each slot tells.
use Rattle.std.proofs.Common.{◌≡◌, sym, ap, ◌∙◌, List, ℕ, ◌<◌, take, arith, length-take-le}
use Rattle.std.specs.Slice.Iter.{chunks_exact_rest, chunks_exact_size}
use Rattle.holdings.specs.Memory.{slot_in}
use Rattle.slot_check.proofs.InOrder.{found}
use Rattle.slot_check.proofs.Shelves.{Along, slot-long, no_slot, passed-free, passed-full, refused-labels, along-none, along-inside, along-slot, along-next, along-all}
use Rattle.slot_check.proofs.are_slots.Goals.{In-Some}
use Rattle.slot_check.proofs.are_slots.Goals as goal

-- a slot comes
module _ (u : In-Some) where
  abbrev m : List ℕ
  m = u.args.memory.now

  A : Along m (chunks_exact_rest u.loop-slot.slot-iterator) (chunks_exact_size u.loop-slot.slot-iterator) u.loop-slot.common
  A = u.loop-slot.invariant.2

  inside : A.place < 160
  inside = let s = u.in-Some.ensures.steps in along-inside m u.requires A u.in-Some.slot.now _ s.1.0 s.1.1

  is : u.in-Some.slot.now ≡ slot_in m A.place
  is = let s = u.in-Some.ensures.steps in along-slot m u.requires A u.in-Some.slot.now _ s.1.0 s.1.1

pub slice_bounds-slots-end : goal.slice_bounds-slots-end
slice_bounds-slots-end c = sym (length-take-le _ c.args.memory.now (omega (arith, c.requires)))

pub loop-slot-init : goal.loop-slot-init
loop-slot-init c =
    let i = c.into_iter-slot-iterator.ensures.into_iter_gives in
    let rest : chunks_exact_rest c.into_iter-slot-iterator.result ≡ take 20320 c.args.memory.now = ap chunks_exact_rest i ∙ c.chunks_exact-slot-items.ensures.rest in
    let size : chunks_exact_size c.into_iter-slot-iterator.result ≡ 127 = ap chunks_exact_size i ∙ c.chunks_exact-slot-items.ensures.size in
    (omega (arith, size), tt, along-none c.args.memory.now rest size)

pub returns-in_default : goal.returns-in_default
returns-in_default c =
    let u = (goal.at.returns-in_default c).In-Some in
    no_slot (m u) (A u).place (inside u) (rw (c.if-not-all_zero.true, is u) at c.all_zero.ensures) (rw (is u) at c.in_default.ensures)

pub returns-then-differ : goal.returns-then-differ
returns-then-differ c =
    let u = (goal.at.returns-then-differ c).In-Some in
    let F = found (rw (is u) at c.in-Some-labels_of.ensures) in
    refused-labels (m u) (A u).place c.loop-slot.common F (λ e. c.if-differ.true (e ∙ sym c.unwrap_or-first.ensures)) (inside u) (A u).passed

pub loop-slot-preserved-then-not-all_zero : goal.loop-slot-preserved-then-not-all_zero
loop-slot-preserved-then-not-all_zero c =
    let u = (goal.at.loop-slot-preserved-then-not-all_zero c).In-Some in
    let s = c.in-Some.ensures.steps in
    let F = found (rw (is u) at c.in-Some-labels_of.ensures) in
    let P = passed-full (m u) (A u).place c.loop-slot.common F (c.if-differ.false ∙ c.unwrap_or-first.ensures) (A u).passed in
    (omega (arith, s.0, c.loop-slot.invariant.0), tt, along-next (m u) c.requires (A u) c.in-Some.slot.now _ s.1.0 s.1.1 s.0 (rw c.unwrap_or-first.ensures P))

pub loop-slot-preserved : goal.loop-slot-preserved
loop-slot-preserved c =
    let u = (goal.at.loop-slot-preserved c).In-Some in
    let s = c.in-Some.ensures.steps in
    let P = passed-free (m u) (A u).place c.loop-slot.common (slot-long (m u) c.requires (A u).place (inside u)) (rw (c.if-not-all_zero.false, is u) at c.all_zero.ensures) (A u).passed in
    (omega (arith, s.0, c.loop-slot.invariant.0), tt, along-next (m u) c.requires (A u) c.in-Some.slot.now _ s.1.0 s.1.1 s.0 P)

pub returns : goal.returns
returns c = along-all c.args.memory.now c.requires c.loop-slot.invariant.2 c.in-None.ensures.steps.1.0
