-- A tree that was read is refused beside the held ones, or added.
use Rattle.std.proofs.Common.{◌≡◌, refl, List, ◌≤◌, arith}
use Rattle.meaning.specs.Limits.{max_trees}
use Rattle.holdings.specs.Slots.{Slot, smallest_free}
use Rattle.holdings.specs.Memory.{IsIndex}
use Rattle.holdings.proofs.HeldTrees.{smallest-le}
use Rattle.holdings.proofs.Memory.{index-shelved}
use Rattle.index_calls.proofs.Calling.{add-full, add-unlike, add_done, add-room, valid-shelves}
use Rattle.index_calls.proofs.add_read.Goals.{In-Some}
use Rattle.index_calls.proofs.add_read.Goals as goal

-- a number is free
module _ (u : In-Some) {hs : List Slot} (I : IsIndex hs u.args.memory.now) where
  number_is : u.in-Some.number ≡ smallest_free hs
  number_is = (u.in-Some.ensures hs (index-shelved u.requires.1 I)).1

  some : u.in-Some.number ≡ max_trees → ⊥
  some e = absurd (omega (arith, e, (u.in-Some.ensures hs (index-shelved u.requires.1 I)).0))

pub invariant_of-first_free : goal.invariant_of-first_free
invariant_of-first_free c = valid-shelves c.requires.1 c.requires.0

pub returns-in_default : goal.returns-in_default
returns-in_default c hs x I k =
    rw c.at.ensures (add-full hs x c.args.read.behind c.args.memory.now (smallest_free hs) refl (c.in_default.ensures hs (index-shelved c.requires.1 I)))

pub unlike_held-requires : goal.unlike_held-requires
unlike_held-requires c = (valid-shelves c.requires.1 c.requires.0, c.requires.2)

pub returns-in-Some-unlike_held : goal.returns-in-Some-unlike_held
returns-in-Some-unlike_held c hs x I k =
    let u = (goal.at.returns-in-Some-unlike_held c).In-Some in
    let S = index-shelved c.requires.1 I in
    rw c.at-in-Some-unlike_held.ensures
    (add-unlike hs x c.args.read.behind c.args.memory.now u.in-Some.number (number_is u I) (some u I) _ (c.in-Some-unlike_held.ensures hs x S k) c.in-Some-unlike_held.reason refl)

pub add-requires : goal.add-requires
add-requires c =
    let u = (goal.at.add-requires c).In-Some in
    let v = c.requires.0 in
    let kept = c.requires.2 in
    record {
      slots = v.slots;
      topology = kept.kinded.tree;
      adds = add-room v.slots kept.kinded c.args.read.behind c.args.memory.now u.in-Some.number (number_is u v.index) (some u v.index) 0
          (c.in_default-unlike_held.ensures v.slots kept.kinded (index-shelved c.requires.1 v.index) kept.keeps) refl v.index c.requires.1 (omega (arith, smallest-le v.slots, v.index.trees.many)) kept.keeps;
    }

pub returns : goal.returns
returns c hs x I k =
    let u = (goal.at.returns c).In-Some in
    let few : smallest_free hs ≤ max_trees = omega (arith, smallest-le hs, I.trees.many) in
    let l = c.in_default-unlike_held.ensures hs x (index-shelved c.requires.1 I) k in
    let A = add-room hs x c.args.read.behind c.args.memory.now u.in-Some.number (number_is u I) (some u I) 0 l refl I c.requires.1 few k in
    add_done hs x c.args.read.behind c.args.memory.now u.in-Some.number (number_is u I) (some u I) 0 l refl (c.add.ensures hs x.tree A)
