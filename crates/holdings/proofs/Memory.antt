-- The memory of a set of held trees: its size, that it tells the set, and what loops have to see to know it.
-- Assumes nothing.
use mathlib.Core.Path.{◌≡◌, refl, sym, ap, ap₂, ◌∙◌, subst, subst₂}
use mathlib.Core.Logic.{◌↔◌}
use mathlib.Core.List.{List, [], ◌∷◌, ◌++◌, append_assoc, Memᴰ}
use Prim.Native.Nat.{ℕ, zero, suc, ◌+◌, ◌*◌, ◌-◌, ◌≤◌, ◌<◌}
use native.Mathlib.Omega.{arith}
use lib.Dec.{T}
use lib.ListN.{length, take, drop, get_or, replicate, length-append, length-take, length-drop, length-replicate, get_or-replicate, take-append-drop, replicate-append-replicate, get_or-append}
use lib.Seq.{take-add, get_or-take, get_or-drop}
use Rattle.meaning.specs.Limits.{max_trees, max_nodes}
use Rattle.meaning.specs.Sorted.{Sorted}
use Rattle.meaning.specs.Listing.{Pair, flat}
use Rattle.meaning.proofs.Lists.{number, numbered}
use Rattle.meaning.proofs.Counts.{flat-length}
use Rattle.meaning.proofs.Sorted.{rising-sorted, sorted-at}
use Rattle.holdings.specs.Slots.{Slot, free, HeldTrees, empty}
use Rattle.holdings.specs.Entries.{entry_text, IsEntry, total, earlier, entries}
use Rattle.holdings.specs.Memory.{entries_at, entry_bytes, index_bytes, slots_bytes, laid, encode, IsIndex, entry_in, Shelved, Ranked, Checked}
use Rattle.holdings.proofs.EntryOrder.{earlier-trans}
use Rattle.holdings.proofs.Entries.{entries-mem, entries_sorted, entries-length, entries-full}
use Rattle.holdings.proofs.Bytes.{cut-same, at-behind, all-zero, pairs_in, pairs-length, pairs-at, flat-pairs, pairs-flat}
use Rattle.holdings.proofs.SlotBytes.{slots_length, slots-inj, total-le, slots-join, slots-part}

module _ {hs : List Slot} (H : HeldTrees hs) where
  pub slots-size : length (slots_bytes hs) ≡ entries_at
  slots-size = omega (arith, slots_length hs, H.many)

  -- there is room for all entries
  pub entries-few : 2 * length (entries hs) ≤ entry_bytes
  entries-few = omega (arith, entries-length hs, total-le hs H.good, H.many)

  -- 60,640 bytes
  pub encode-length : length (encode hs) ≡ index_bytes
  unfolding laid
  encode-length = simp (length-append, length-replicate) (omega (arith, slots-size, flat-length (entries hs), entries-few))

-- the memory tells the set
pub encode_inj : {hs ks : List Slot} → HeldTrees hs → HeldTrees ks → encode hs ≡ encode ks → hs ≡ ks
unfolding laid
encode_inj {hs} {ks} H K e = slots-inj hs ks (H.many ∙ sym K.many) H.good K.good (cut-same (slots_bytes hs) _ (slots_bytes ks) _ (slots-size H ∙ sym (slots-size K)) e).0

pub one_index : {hs ks : List Slot} {memory : List ℕ} → IsIndex hs memory → IsIndex ks memory → hs ≡ ks
one_index I J = encode_inj I.trees J.trees (sym I.bytes ∙ J.bytes)

-- what loops see is enough
module _ {hs : List Slot} {memory : List ℕ} (C : Checked hs memory) where
  abbrev n : ℕ
  n = total hs

  -- the bytes behind the slots
  abbrev rest : List ℕ
  rest = drop entries_at memory

  abbrev es : List Pair
  es = pairs_in rest n

  few : 2 * n ≤ entry_bytes
  few = omega (arith, entries-few C.shelved.trees, entries-length hs)

  long : index_bytes ≤ length memory
  long = C.shelved.long

  entry-is : (k : ℕ) (d : Pair) → k < n → get_or es k d ≡ entry_in memory k
  entry-is k d h =
      let b : entries_at + (2 * k + 1) ≡ entries_at + 2 * k + 1 = omega arith in
      pairs-at rest n k d h ∙ ap₂ (λ (x y : ℕ). (x, y)) (get_or-drop entries_at memory (2 * k) 0) (get_or-drop entries_at memory (2 * k + 1) 0 ∙ ap (λ (i : ℕ). get_or memory i 0) b)

  es-are : es ≡ entries hs
  es-are = entries-full hs sorted each (omega (arith, pairs-length rest n))
    where
      d : Pair
      d = (0, 0)

      sorted : Sorted (earlier (entry_text hs)) es
      sorted = rising-sorted (earlier (entry_text hs)) (earlier-trans (entry_text hs)) es d (λ i h. let l : suc i < n = omega (arith, pairs-length rest n) in rw (entry-is i d (omega arith), entry-is (suc i) d l) (C.ranked.rise i l))

      each : (e : Pair) → Memᴰ e es → IsEntry hs e
      each e m = let (k, h, i) = number d m in let l : k < n = omega (arith, pairs-length rest n) in subst (IsEntry hs) (sym (entry-is k d l) ∙ i) (C.ranked.each k l)

  zeros-are : take (entry_bytes - 2 * n) (drop (2 * n) rest) ≡ replicate (entry_bytes - 2 * n) 0
  zeros-are =
      all-zero (entry_bytes - 2 * n) (take (entry_bytes - 2 * n) (drop (2 * n) rest)) (simp (length-take, length-drop) (omega (arith, few)))
      (λ k h.
      get_or-take (entry_bytes - 2 * n) (drop (2 * n) rest) k 0 h ∙ get_or-drop (2 * n) rest k 0 ∙ get_or-drop entries_at memory (2 * n + k) 0
      ∙ C.zeros (entries_at + (2 * n + k)) (omega arith) (omega (arith, few)))

  pub checked-index : IsIndex hs memory
  unfolding laid
  checked-index = record { trees = C.shelved.trees; bytes = bytes }
    where
      front : take entries_at memory ≡ slots_bytes hs
      front = let z : length hs * max_nodes ≡ entries_at = omega (arith, C.shelved.trees.many) in rw z at (slots-join hs memory (λ x l. C.shelved.stand x (omega (arith, C.shelved.trees.many))))

      back : take entry_bytes rest ≡ flat (entries hs) ++ replicate (entry_bytes - 2 * length (entries hs)) 0
      back =
          let z : entry_bytes ≡ 2 * n + (entry_bytes - 2 * n) = omega (arith, few) in
          let f : take (2 * n) rest ≡ flat (entries hs) = sym (flat-pairs n rest (simp length-drop (omega (arith, few)))) ∙ ap flat es-are in
          ap (λ (k : ℕ). take k rest) z ∙ take-add (2 * n) (entry_bytes - 2 * n) rest ∙ rw (f, zeros-are, entries-length hs)

      bytes : take index_bytes memory ≡ encode hs
      bytes = take-add entries_at entry_bytes memory ∙ ap₂ ◌++◌ front back

-- what lies behind the entries
abbrev pub behind : List Pair → List ℕ → List ℕ
behind es memory = replicate (entry_bytes - 2 * length es) 0 ++ drop index_bytes memory

-- memory that has slots and entries behind them
module _ {hs : List Slot} (H : HeldTrees hs) (es : List Pair) (memory : List ℕ) (bytes : take index_bytes memory ≡ laid hs es) where
  pub laid-parts : memory ≡ slots_bytes hs ++ (flat es ++ behind es memory)
  unfolding laid
  laid-parts = sym (take-append-drop index_bytes memory) ∙ ap (λ (l : List ℕ). l ++ drop index_bytes memory) bytes ∙ simp append_assoc

  at_back : (k : ℕ) → get_or memory (entries_at + k) 0 ≡ get_or (flat es ++ behind es memory) k 0
  at_back k = ap (λ (l : List ℕ). get_or l (entries_at + k) 0) laid-parts ∙ at-behind (slots_bytes hs) (flat es ++ behind es memory) entries_at k (slots-size H)

  -- entry k stands there
  pub entry-laid : (k : ℕ) (d : Pair) → k < length es → entry_in memory k ≡ get_or es k d
  entry-laid k d h =
      let b : entries_at + 2 * k + 1 ≡ entries_at + (2 * k + 1) = omega arith in
      rw (b, at_back (2 * k), at_back (2 * k + 1)) (sym (pairs-at (flat es ++ behind es memory) (length es) k d h)) ∙ ap (λ (l : List Pair). get_or l k d) (pairs-flat es (behind es memory))

  -- and so do the slots
  pub laid-shelved : index_bytes ≤ length memory → Shelved hs memory
  laid-shelved long = record { long = long; trees = H; stand = λ x h. rw laid-parts (slots-part hs (flat es ++ behind es memory) x (omega (arith, H.many))) }

  -- the entries are in order there
  pub laid-ranked : Sorted (earlier (entry_text hs)) es → ((e : Pair) → Memᴰ e es → IsEntry hs e) → Ranked hs memory (length es)
  laid-ranked sorted is = record {
    each = λ k h. subst (IsEntry hs) (sym (entry-laid k (0, 0) h)) (is (get_or es k (0, 0)) (numbered es (0, 0) k h));
    rise = λ k h.
        subst₂ (λ (p q : Pair). T (earlier (entry_text hs) p q)) (sym (entry-laid k (0, 0) (omega arith))) (sym (entry-laid (suc k) (0, 0) h))
        (sorted-at (earlier (entry_text hs)) es (0, 0) sorted k (suc k) (omega arith) h);
  }

  -- with zeros behind them
  laid-zero : 2 * length es ≤ entry_bytes → (k : ℕ) → entries_at + 2 * length es ≤ k → k < index_bytes → get_or memory k 0 ≡ 0
  laid-zero few k h l =
      let j : ℕ = k - entries_at - 2 * length es in
      let z : k ≡ entries_at + (2 * length es + j) = omega arith in
      let i : j < entry_bytes - 2 * length es = omega arith in
      let zeros : List ℕ = replicate (entry_bytes - 2 * length es) 0 in
      let y : j < length zeros = simp length-replicate i in
      ap (λ (x : ℕ). get_or memory x 0) z ∙ at_back (2 * length es + j) ∙ at-behind (flat es) (behind es memory) (2 * length es) j (flat-length es)
      ∙ get_or-append zeros (drop index_bytes memory) 0 j y
      ∙ get_or-replicate (entry_bytes - 2 * length es) j 0 0 i

-- what loops see is so in an index
module _ {hs : List Slot} {memory : List ℕ} (long : index_bytes ≤ length memory) (I : IsIndex hs memory) where
  -- entry k in memory is entry k
  pub entry_at : (k : ℕ) (d : Pair) → k < length (entries hs) → entry_in memory k ≡ get_or (entries hs) k d
  entry_at k d h = entry-laid I.trees (entries hs) memory I.bytes k d h

  pub index-shelved : Shelved hs memory
  index-shelved = laid-shelved I.trees (entries hs) memory I.bytes long

  pub index-ranked : Ranked hs memory (total hs)
  index-ranked = subst (Ranked hs memory) (entries-length hs) (laid-ranked I.trees (entries hs) memory I.bytes (entries_sorted hs) (λ e m. (entries-mem hs e).0 m))

  pub index-checked : Checked hs memory
  index-checked = record {
    shelved = index-shelved;
    ranked = index-ranked;
    zeros = λ k h l. laid-zero I.trees (entries hs) memory I.bytes (entries-few I.trees) k (omega (arith, entries-length hs)) l;
  }

-- the criterion: memory is that of a set of held trees exactly when loops see all this
pub checked-iff : (hs : List Slot) (memory : List ℕ) → index_bytes ≤ length memory → Checked hs memory ↔ IsIndex hs memory
checked-iff hs memory long = (λ C. checked-index C, λ I. index-checked long I)

-- lent memory of zeros is the empty index
no-slots : (m : ℕ) → slots_bytes (replicate m free) ≡ replicate (m * max_nodes) 0
unfolding slots_bytes
no-slots zero = refl
no-slots (suc m) =
    let z : max_nodes + m * max_nodes ≡ suc m * max_nodes = omega arith in
    ap (λ (l : List ℕ). replicate max_nodes 0 ++ l) (no-slots m) ∙ replicate-append-replicate {A = ℕ} max_nodes (m * max_nodes) 0 ∙ ap (λ (k : ℕ). replicate {A = ℕ} k 0) z

no-entries : (m : ℕ) → total (replicate m free) ≡ 0
unfolding total
no-entries zero = refl
no-entries (suc m) = omega (arith, no-entries m)

none-listed : (es : List Pair) → length es ≡ 0 → flat es ++ replicate (entry_bytes - 2 * length es) 0 ≡ replicate entry_bytes 0
unfolding flat
none-listed [] e = refl
none-listed (e ∷ es) h = absurd (omega arith)

pub encode-empty : encode empty ≡ replicate index_bytes 0
unfolding laid
encode-empty = ap₂ ◌++◌ (no-slots max_trees) (none-listed (entries empty) (entries-length empty ∙ no-entries max_trees)) ∙ replicate-append-replicate {A = ℕ} entries_at entry_bytes 0
