-- Runs of additions and removals: memory is that of the trees that are held, and asking gives what the graph call gives.
-- Assumes nothing.
use mathlib.Core.Path.{◌≡◌, refl, sym, ap, ap₂, ◌∙◌, subst}
use mathlib.Core.List.{List, [], ◌++◌, map}
use Prim.Native.Nat.{ℕ, ◌≤◌, ◌<◌}
use native.Mathlib.Omega.{arith}
use lib.ListN.{length, drop, take, replicate, length-map, take-append-drop}
use lib.Seq.{drop_at}
use Rattle.meaning.specs.Limits.{max_trees}
use Rattle.meaning.specs.Tree.{Tree, canon}
use Rattle.meaning.specs.Kind.{Kinded, rooted}
use Rattle.meaning.specs.Reading.{got}
use Rattle.meaning.specs.Copies.{kept_apart}
use Rattle.meaning.specs.Listing.{Pair}
use Rattle.meaning.specs.Answer.{Answer, accepted, Outcome, GraphSize, FirstsMemory, written, text_of, conclude}
use Rattle.meaning.specs.Calls.{firsts_read, firsts_graph_of, ChoosingCall}
use Rattle.meaning.proofs.Lent.{ample}
use Rattle.meaning.proofs.Memory.{written-length}
use Rattle.meaning.proofs.Determined.{same-accepted, not-both}
use Rattle.holdings.specs.Slots.{Slot, free, held, slot_at, empty, smallest_free, add, remove, trees, number_at}
use Rattle.holdings.specs.Neighbours.{Neighbours, partners}
use Rattle.holdings.specs.Memory.{index_bytes, encode, IsIndex}
use Rattle.holdings.specs.IndexCalls.{Opened, opens, index_slices, AddCall, having, ask_slices, ask_first, number_read, AskCall, remove_from, RemoveCall, removes, Used, fresh, added, unchanged, removed, kept}
use Rattle.holdings.proofs.Entries.{slot_same}
use Rattle.holdings.proofs.HeldTrees.{empty-held, remove-added, none_left}
use Rattle.holdings.proofs.Memory.{encode-length, encode-empty}
use Rattle.holdings.proofs.NeighbourLists.{at_place, index-lists}
use Rattle.holdings.proofs.IndexCalls.{opened_one, add-grows, add-refused, remove-determined, remove-shrinks, remove-refused}

-- used memory is that of the trees that were added and not removed
pub used-index : {hs : List Slot} {memory : List ℕ} → Used hs memory → IsIndex hs memory
used-index (fresh memory e) = record { trees = empty-held; bytes = e ∙ sym encode-empty }
used-index (added {hs} {o} w c e r) =
    let g = add-grows (used-index w) c e in
    let same = got_same (sym g.joins.read ∙ r) in
    subst (λ (t : Tree). IsIndex (add hs t) o.memory) (sym g.joins.tree ∙ ap (λ (x : Kinded). x.tree) same) g.index
  where
    got_same : {x y : Kinded} {p q : ℕ} → got x p ≡ got y q → x ≡ y
    got_same e = cc
used-index (unchanged {hs} w c e) = subst (IsIndex hs) (sym (add-refused c e)) (used-index w)
used-index (removed w c e) = (remove-shrinks (used-index w) c e).index
used-index (kept {hs} w c e) = subst (IsIndex hs) (sym (remove-refused c e)) (used-index w)

-- so it depends only on which numbers have which trees, and not on how they came there
pub used-same : {hs : List Slot} {memory memory' : List ℕ} → Used hs memory → Used hs memory' → take index_bytes memory ≡ take index_bytes memory'
used-same w w' = (used-index w).bytes ∙ sym (used-index w').bytes

-- an index that has lost its last tree is zeros
pub used-empty : {hs : List Slot} {memory : List ℕ} → Used hs memory → trees hs ≡ [] → take index_bytes memory ≡ replicate index_bytes 0
used-empty {hs} w e =
    let I = used-index w in
    let none : hs ≡ empty = none_left hs e ∙ ap (λ (n : ℕ). replicate {A = Slot} n free) I.trees.many in
    I.bytes ∙ ap encode none ∙ encode-empty

-- ---- what was added last is removed
-- what is written last stands
written_over : (xs ys slice : List ℕ) → length ys ≡ length xs → written xs (written ys slice) ≡ written xs slice
written_over xs ys slice e = ap (λ (l : List ℕ). xs ++ l) (drop_at ys (drop (length ys) slice) (length xs) e ∙ ap (λ (n : ℕ). drop n slice) e)

-- an index written over itself
written_same : {hs : List Slot} {memory : List ℕ} → IsIndex hs memory → written (encode hs) memory ≡ memory
written_same {hs} {memory} I =
    ap₂ (λ (l : List ℕ) (n : ℕ). l ++ drop n memory) (sym I.bytes) (encode-length I.trees) ∙ take-append-drop index_bytes memory

-- removing it is accepted, and gives back the memory byte for byte
pub added-removed : {hs : List Slot} {s memory : List ℕ} {o : Outcome ℕ (List ℕ)} {o' : Outcome (Unit {0}) (List ℕ)} {n : ℕ} → IsIndex hs memory → index_bytes ≤ length memory
    → AddCall s memory o → o.answer ≡ accepted n → RemoveCall n o.memory o' → o' ≡ record { answer = accepted tt; memory = memory }
added-removed {hs} {memory} {o} {n} I long c e r =
    let g = add-grows I c e in
    let t = g.tree in
    let m = o.memory in
    let H = I.trees in
    let few : smallest_free hs < length hs = omega (arith, g.joins.room, H.many) in
    let number : n ≡ smallest_free hs = same-accepted e g.number in
    let has : slot_at (add hs t) n ≡ held (canon t) = ap (slot_at (add hs t)) number ∙ slot_same hs (smallest_free hs) (held (canon t)) few in
    let size : length (written (encode (add hs t)) memory) ≡ length memory = written-length (encode (add hs t)) memory (omega (arith, encode-length g.index.trees, long)) in
    let opened = opens (add hs t) (ample (index_slices m) (accepted tt) (omega (arith, ap length g.leaves ∙ size, long))) g.index in
    let back : written (encode (remove (add hs t) n)) m ≡ memory =
    ap₂ (λ (k : ℕ) (l : List ℕ). written (encode (remove (add hs t) k)) l) number g.leaves
    ∙ ap (λ (ks : List Slot). written (encode ks) (written (encode (add hs t)) memory)) (remove-added hs t few)
    ∙ written_over (encode hs) (encode (add hs t)) memory (encode-length g.index.trees ∙ sym (encode-length H))
    ∙ written_same I in
    remove-determined r (removes (accepted (add hs t)) opened)
    ∙ ap (λ (a : Answer (List Slot)). conclude a m (remove_from n m)) (ap (having (add hs t)) has)
    ∙ ap (λ (l : List ℕ). record { answer = accepted tt; memory = l }) back

-- ---- the statement of the tickets
-- what an accepted question gives
asked : {hs : List Slot} {memory list : List ℕ} {x : ℕ} {t : Tree} {o : Outcome ℕ (List ℕ)} → IsIndex hs memory → index_bytes ≤ length memory → max_trees ≤ length list → slot_at hs x ≡ held t
    → AskCall x memory list o → (ys : List ℕ) × Neighbours hs x ys × (o ≡ text_of ys list)
asked {hs} {memory} {list} {x} I long room e c = by c
  where
    opened : Opened (ask_first memory list) memory (accepted hs)
    opened = opens hs (ample (ask_slices memory list) (accepted tt) (long, room)) I

    by : {o : Outcome ℕ (List ℕ)} → AskCall x memory list o → (ys : List ℕ) × Neighbours hs x ys × (o ≡ text_of ys list)
    by (AskCall.lists ks ys a A d N) = (ys, subst (λ (l : List Slot). Neighbours l x ys) (same-accepted d (ap (number_read x) (opened_one A opened) ∙ ap (having hs) e)) N, refl)
    by (AskCall.refuses n i p a A d) = absurd (not-both (ap (having hs) e) (ap (number_read x) (opened_one opened A) ∙ d))

-- what the graph call wrote for a text of the held trees, and that asking gives the same
pub record Plain (hs : List Slot) (memory : List ℕ) (ts : List Tree) (graph : FirstsMemory) (g : Outcome GraphSize FirstsMemory) : Type 0 where
  pub pairs : List Pair
  pub gives : g ≡ firsts_graph_of ts pairs graph
  pub lists : (i : ℕ) (list : List ℕ) (o : Outcome ℕ (List ℕ)) → i < length ts → max_trees ≤ length list → AskCall (number_at hs i) memory list o
      → o ≡ text_of (map (number_at hs) (partners (length ts) pairs i)) list

-- after any run of additions and removals each list is what the graph call with copies kept apart gives for the held trees in order of number,
-- each position read as the held number at that place
pub used-lists : {hs : List Slot} {memory : List ℕ} {ts : List Tree} (s : List ℕ) (graph : FirstsMemory) {g : Outcome GraphSize FirstsMemory} → Used hs memory → index_bytes ≤ length memory
    → firsts_read s graph ≡ accepted (record { kind = rooted; trees = ts }) → map canon ts ≡ trees hs → ChoosingCall kept_apart s graph g → Plain hs memory ts graph g
used-lists {hs} {memory} {ts} s graph w long e c G =
    let I = used-index w in
    let same = index-lists s graph I.trees e c G in
    let n : length ts ≡ length (trees hs) = sym (length-map ts canon) ∙ ap length c in
    record {
      pairs = same.pairs;
      gives = same.gives;
      lists = λ i list o h room q.
          let (ys, N, d) = asked I long room (at_place I.trees i (omega arith)) q in
          d ∙ ap (λ (zs : List ℕ). text_of zs list) (same.lists i h ys N);
    }
