-- Slots in memory: each tells what its number has, a held tree stands where its slot begins, and memory has the slots of one set only.
-- Assumes nothing.
use mathlib.Core.Path.{◌≡◌, refl, sym, ap, ◌∙◌}
use mathlib.Core.Bool.{Bool, true, false}
use mathlib.Core.List.{List, ◌++◌, append_assoc}
use Prim.Native.Nat.{ℕ, ◌*◌, ◌-◌, ◌≤◌, ◌<◌}
use native.Mathlib.Nat.{add-zero}
use native.Mathlib.Omega.{arith}
use borrow.Author.Tests.{eqb-true, eqb-false}
use lib.Dec.{eqb}
use lib.ListN.{length, drop, get_or, take-append-drop, length-drop}
use lib.Seq.{length-take-le, get_or-take, get_or-drop, ext_get_or}
use Rattle.meaning.specs.Limits.{max_trees, max_nodes}
use Rattle.meaning.specs.Tree.{Tree, Good}
use Rattle.meaning.proofs.Canon.{canonical-canon}
use Rattle.lent.specs.Runs.{Says}
use Rattle.held.specs.Held.{nodes, pre, hold, Holds, Held}
use Rattle.held.specs.Kept.{Keeps}
use Rattle.held.proofs.Laws.{few-nodes, holding, twice}
use Rattle.holdings.specs.Slots.{Slot, free, held, slot_at}
use Rattle.holdings.specs.Entries.{cuts_of}
use Rattle.holdings.specs.Memory.{index_bytes, slot_bytes, slot_in, Shelved}
use Rattle.holdings.proofs.SlotBytes.{held-byte, slot-inj}
use Rattle.slots.specs.Records.{tree_in}

-- where h has a tree, that is good
abbrev GoodSlot : Slot → Type 0
GoodSlot h = (t : Tree) → h ≡ held t → Good t

hold_holds : {t : Tree} → Good t → Holds (hold t) 0 t
hold_holds {t} G = holding t G.small (few-nodes G)

-- the first byte tells a free slot from a held tree
byte-free : (h : Slot) → GoodSlot h → get_or (slot_bytes h) 0 0 ≡ 0 → h ≡ free
byte-free free g e = refl
byte-free (held t) g e = absurd (held-byte (g t refl) e)

-- what is not free has a tree
pub some-tree : (h : Slot) → ¬ (h ≡ free) → (t : Tree) × (h ≡ held t)
some-tree free n = absurd (n refl)
some-tree (held t) n = (t, refl)

-- memory has all bytes of a slot
pub slot-long : (memory : List ℕ) (x : ℕ) → index_bytes ≤ length memory → x < max_trees → length (slot_in memory x) ≡ max_nodes
slot-long memory x long few = length-take-le max_nodes (drop (x * max_nodes) memory) (omega (arith, length-drop (x * max_nodes) memory))

module _ {hs : List Slot} {memory : List ℕ} (S : Shelved hs memory) {x : ℕ} (few : x < max_trees) where
  good-slot : GoodSlot (slot_at hs x)
  good-slot = S.trees.good x

  first_byte : get_or memory (x * max_nodes) 0 ≡ get_or (slot_bytes (slot_at hs x)) 0 0
  first_byte =
      ap (λ (i : ℕ). get_or memory i 0) (sym (add-zero (x * max_nodes))) ∙ sym (get_or-drop (x * max_nodes) memory 0 0)
      ∙ sym (get_or-take max_nodes (drop (x * max_nodes) memory) 0 0 (omega arith)) ∙ ap (λ (l : List ℕ). get_or l 0 0) (S.stand x few)

  -- it is 0 exactly where the number is free
  pub free-says : Says (eqb (get_or memory (x * max_nodes) 0) 0) (slot_at hs x ≡ free)
  free-says = by (eqb (get_or memory (x * max_nodes) 0) 0) refl
    where
      by : (r : Bool) → eqb (get_or memory (x * max_nodes) 0) 0 ≡ r → Says r (slot_at hs x ≡ free)
      by true e = byte-free (slot_at hs x) good-slot (sym first_byte ∙ eqb-true _ _ e)
      by false e = λ f. eqb-false _ _ e (first_byte ∙ ap (λ (h : Slot). get_or (slot_bytes h) 0 0) f)

  module _ {t : Tree} (has : slot_at hs x ≡ held t) where
    -- a held tree's slot keeps it
    pub slot-keeps : Keeps (tree_in memory x) t
    slot-keeps = record {
      good = S.trees.good x t has;
      bytes = S.stand x few ∙ ap slot_bytes has ∙ ap hold (sym (canonical-canon t (S.trees.canonical x t has)));
    }

    -- and memory holds it from where the slot begins
    pub slot-holds : Holds memory (x * max_nodes) t
    slot-holds =
        let G = S.trees.good x t has in
        let inner = (hold_holds G).stands in
        let back : List ℕ = drop max_nodes (drop (x * max_nodes) memory) in
        record {
          small = G.small;
          stands = (
            inner.0 ++ back,
            sym (take-append-drop max_nodes (drop (x * max_nodes) memory)) ∙ ap (λ (l : List ℕ). l ++ back) (S.stand x few ∙ ap slot_bytes has ∙ inner.1)
                ∙ append_assoc (pre t) inner.0 back,
          );
        }

  pub held-there : ¬ (slot_at hs x ≡ free) → Held memory (x * max_nodes)
  held-there n = let (t, e) = some-tree (slot_at hs x) n in record { tree = t; holds = slot-holds e }

  -- a tree has a cut for each node but its root
  pub cuts-told : ¬ (slot_at hs x ≡ free) → (w : ℕ) → ((t : Tree) → Holds memory (x * max_nodes) t → w ≡ nodes t) → w - 1 ≡ cuts_of (slot_at hs x)
  cuts-told n w wide =
      let (t, e) = some-tree (slot_at hs x) n in
      let c : w - 1 ≡ cuts_of (held t) = omega (arith, wide t (slot-holds e), twice t) in
      c ∙ ap cuts_of (sym e)

-- memory has the slots of one set only
pub one-shelved : {hs ks : List Slot} {memory : List ℕ} → Shelved hs memory → Shelved ks memory → hs ≡ ks
one-shelved {hs} {ks} S R =
    ext_get_or free hs ks (S.trees.many ∙ sym R.trees.many) (λ x l.
    let few : x < max_trees = omega (arith, S.trees.many) in
    slot-inj (slot_at hs x) (slot_at ks x) (S.trees.good x) (R.trees.good x) (sym (S.stand x few) ∙ R.stand x few))
