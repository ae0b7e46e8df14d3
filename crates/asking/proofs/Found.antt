-- The marked numbers whose slots differ are the neighbours, where exactly those are marked that x meets.
-- Assumes nothing.
use mathlib.Core.Path.{◌≡◌, sym, ap, ◌∙◌}
use mathlib.Core.Logic.{◌↔◌, ◌⊎◌, inl, inr}
use mathlib.Core.Bool.{Bool, false, true≢false}
use mathlib.Core.List.{List}
use Prim.Native.Nat.{ℕ, ◌+◌, ◌*◌, ◌<◌}
use native.Mathlib.Omega.{arith}
use native.Mathlib.Decide.{dec_lt}
use lib.ListN.{length, drop, get_or, replicate, length-replicate, get_or-replicate, get_or-eq_default}
use lib.Seq.{get_or-take, get_or-drop, ext_get_or}
use Rattle.meaning.specs.Limits.{max_trees, max_nodes}
use Rattle.holdings.specs.Slots.{Slot, slot_at}
use Rattle.holdings.specs.Neighbours.{Linked, linked, Met}
use Rattle.holdings.specs.Memory.{slot_bytes, slot_in, Shelved}
use Rattle.holdings.proofs.SlotBytes.{slot-inj}
use Rattle.holdings.proofs.HeldTrees.{held-inside, linked-iff}
use Rattle.slots.proofs.Shelving.{slot-long}
use Rattle.asking.specs.Asking.{Marked, Marks, SameSlots, Other, Below, ListWritten, NeighboursWritten}
use Rattle.asking.proofs.Listed.{list-iff}

-- no number is marked at first
none-marked : (n y : ℕ) → get_or (replicate n false) y false ≡ false
none-marked n y = go (dec_lt y n)
  where
    go : Dec (y < n) → get_or (replicate n false) y false ≡ false
    go (yes h) = get_or-replicate n y false false h
    go (no h) = get_or-eq_default (replicate n false) false (omega (arith, length-replicate {A = Bool} n false))

-- marked from none on
zeros-marked : {P : ℕ → Type 0} {marks : List Bool} → Marks P (replicate max_trees false) marks → (y : ℕ) → Marked marks y ↔ P y
zeros-marked {P} m y = (λ e. go ((m.each y).0 e), λ p. (m.each y).1 (inr p))
  where
    go : Marked (replicate max_trees false) y ⊎ P y → P y
    go (inl e) = absurd (true≢false (sym e ∙ none-marked max_trees y))
    go (inr p) = p

module _ {hs : List Slot} {memory : List ℕ} (S : Shelved hs memory) where
  slot-byte : (x k : ℕ) → k < max_nodes → get_or (slot_in memory x) k 0 ≡ get_or memory (x * max_nodes + k) 0
  slot-byte x k h = get_or-take max_nodes (drop (x * max_nodes) memory) k 0 h ∙ get_or-drop (x * max_nodes) memory k 0

  -- slots with the same bytes are the same
  slots_same : (x y : ℕ) → x < max_trees → y < max_trees → SameSlots memory x y ↔ (slot_at hs x ≡ slot_at hs y)
  slots_same x y h l = (to, from)
    where
      long : length (slot_in memory x) ≡ max_nodes
      long = slot-long memory x S.long h

      byte-same : SameSlots memory x y → (k : ℕ) → k < max_nodes → get_or (slot_in memory x) k 0 ≡ get_or (slot_in memory y) k 0
      byte-same s k i = slot-byte x k i ∙ s k i ∙ sym (slot-byte y k i)

      to : SameSlots memory x y → slot_at hs x ≡ slot_at hs y
      to s =
          let bytes = ext_get_or 0 (slot_in memory x) (slot_in memory y) (long ∙ sym (slot-long memory y S.long l)) (λ k i. byte-same s k (omega (arith, long))) in
          slot-inj (slot_at hs x) (slot_at hs y) (S.trees.good x) (S.trees.good y) (sym (S.stand x h) ∙ bytes ∙ S.stand y l)

      from : slot_at hs x ≡ slot_at hs y → SameSlots memory x y
      from e k i =
          let bytes : slot_in memory x ≡ slot_in memory y = S.stand x h ∙ ap slot_bytes e ∙ sym (S.stand y l) in
          sym (slot-byte x k i) ∙ ap (λ (l : List ℕ). get_or l k 0) bytes ∙ slot-byte y k i

  -- the list of what is found
  pub found : {x : ℕ} {marks : List Bool} {list list' : List ℕ} {r : ℕ} → x < max_trees → Marks (Met hs x) (replicate max_trees false) marks
      → ListWritten (Below (Other marks memory x) max_trees) list list' r → NeighboursWritten hs x list list' r
  found {x} {marks} few m w =
      let n = list-iff {Q = Linked hs x} (λ y. (to y, from y)) w in
      record { numbers = n.numbers; neighbours = record { ascending = n.ascending; listed = n.listed }; wrote = n.wrote }
    where
      to : (y : ℕ) → Below (Other marks memory x) max_trees y → Linked hs x y
      to y (h, o) = (linked-iff S.trees x y).1 (λ e. o.1 ((slots_same x y few h).1 e), (zeros-marked m y).0 o.0)

      inside : (y : ℕ) → Linked hs x y → y < max_trees
      inside y (linked e d a) = omega (arith, held-inside hs y d, S.trees.many)

      from : (y : ℕ) → Linked hs x y → Below (Other marks memory x) max_trees y
      from y k =
          let meet = (linked-iff S.trees x y).0 k in
          let h = inside y k in
          (h, ((zeros-marked m y).1 meet.1, λ s. meet.0 ((slots_same x y few h).0 s)))
