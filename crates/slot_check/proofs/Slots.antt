-- The bytes of a slot: zeros, or a tree with zeros behind it.
-- Assumes nothing.
use Rattle.std.specs.Prelude.{Bool, true, false, Some, None}
use Rattle.std.specs.Bool.{then_some}
use mathlib.Core.Path.{◌≡◌, sym, ap, ◌∙◌}
use mathlib.Core.List.{List}
use Prim.Native.Nat.{ℕ, ◌≤◌, ◌<◌}
use native.Mathlib.Decide.{dec_lt}
use native.Mathlib.Omega.{arith}
use lib.ListN.{length, get_or, replicate, length-replicate, get_or-replicate, get_or-append}
use lib.Seq.{length-sets, ext_get_or}
use Rattle.meaning.specs.Limits.{max_nodes}
use Rattle.meaning.specs.Tree.{Tree}
use Rattle.meaning.proofs.Clade.{clade-some}
use Rattle.lent.specs.Runs.{Zeros, Says}
use Rattle.lent.proofs.Runs.{sets-outside, sets-at}
use Rattle.held.specs.Held.{Holds, Held, nodes, pre, hold}
use Rattle.held.proofs.Laws.{few-nodes, holding, length-pre}
use Rattle.holdings.proofs.Bytes.{all-zero}
use Rattle.slot_check.specs.Slot.{InOrder, Tells, tells, none, Full}
use Rattle.slot_check.proofs.InOrder.{found, nothing}

-- ---- zeros
-- a list of zeros only is told by its length
pub zeros-free : (n : ℕ) (xs : List ℕ) → length xs ≡ n → Zeros xs 0 n → xs ≡ replicate n 0
zeros-free n xs e z = all-zero n xs e (λ k l. z k (omega arith) l)

pub free-zeros : (n : ℕ) (xs : List ℕ) → xs ≡ replicate n 0 → Zeros xs 0 n
free-zeros n xs e k h l = ap (λ (ys : List ℕ). get_or ys k 0) e ∙ get_or-replicate n k 0 0 l

-- ---- a tree with zeros behind it
hold-zeros : (t : Tree) → Zeros (hold t) (nodes t) max_nodes
hold-zeros t k h l = sets-outside 0 (replicate max_nodes 0) 0 (pre t) k (λ _. omega (arith, length-pre t)) ∙ get_or-replicate max_nodes k 0 0 l

-- so these bytes are told by the tree
module _ (xs : List ℕ) (t : Tree) (long : length xs ≡ max_nodes) (few : nodes t ≤ max_nodes) (h : Holds xs 0 t) (z : Zeros xs (nodes t) max_nodes) where
  tree-at : (k : ℕ) → k < nodes t → get_or xs k 0 ≡ get_or (hold t) k 0
  tree-at k l =
      let i : k < length (pre t) = omega (arith, length-pre t) in
      ap (λ (ys : List ℕ). get_or ys k 0) h.stands.1 ∙ get_or-append (pre t) h.stands.0 0 k i
      ∙ sym (sets-at 0 (replicate max_nodes 0) (pre t) (omega (arith, length-pre t, length-replicate {A = ℕ} max_nodes 0)) k i)

  slot_is : xs ≡ hold t
  slot_is = ext_get_or 0 xs (hold t) (long ∙ sym (length-sets (replicate max_nodes 0) 0 (pre t))) (λ k l. by k (omega (arith, long)) (dec_lt k (nodes t)))
    where
      by : (k : ℕ) → k < max_nodes → Dec (k < nodes t) → get_or xs k 0 ≡ get_or (hold t) k 0
      by k i (yes l) = tree-at k l
      by k i (no l) = z k (omega arith) i ∙ sym (hold-zeros t k (omega arith) i)

-- ---- what is told of a slot
pub full-some : {xs : List ℕ} {l : ℕ} → Full xs l → 0 < l
full-some F = omega (arith, clade-some F.tree, F.labels)

full-holds : {xs : List ℕ} {l : ℕ} (F : Full xs l) → Holds xs 0 F.tree
full-holds F = rw F.bytes (holding F.tree F.good.small (few-nodes F.good))

full-order : {xs : List ℕ} {l : ℕ} → Full xs l → InOrder xs 0 l
full-order F = record { tree = F.tree; holds = full-holds F; good = F.good; canonical = F.canonical; labels = F.labels }

-- no tree in order
pub full-none : {xs : List ℕ} → Tells (InOrder xs 0) None → Tells (Full xs) None
full-none X = none (λ l F. nothing X l (full-order F))

module _ {xs : List ℕ} {r : ℕ} (X : Tells (InOrder xs 0) (Some r)) where
  abbrev o : InOrder xs 0 r
  o = found X

  pub holds-some : Held xs 0
  holds-some = record { tree = o.tree; holds = o.holds }

  module _ (w : ℕ) (width : (t : Tree) → Holds xs 0 t → w ≡ nodes t) where
    -- more behind it
    pub full-more : ¬ Zeros xs w max_nodes → Tells (Full xs) None
    full-more m = none (λ l F. m (rw (width F.tree (full-holds F), F.bytes) (hold-zeros F.tree)))

    -- zeros behind it
    pub full-zeros : length xs ≡ max_nodes → Zeros xs w max_nodes → Tells (Full xs) (Some r)
    full-zeros long z =
        let z' : Zeros xs (nodes o.tree) max_nodes = rw (width o.tree o.holds) at z in
        tells (record { tree = o.tree; good = o.good; canonical = o.canonical; bytes = slot_is xs o.tree long (few-nodes o.good) o.holds z'; labels = o.labels })

    pub full-told : length xs ≡ max_nodes → (z : Bool) → Says z (Zeros xs w max_nodes) → Tells (Full xs) (then_some z r)
    full-told long true z = full-zeros long z
    full-told long false z = full-more z
