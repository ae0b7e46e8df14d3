-- All slots: what each is, one after another, and what makes the memory that of no set.
-- Assumes nothing.
use Rattle.std.specs.Prelude.{Option, Some, None, MatchOption}
use Rattle.std.specs.Option.{unwrap_or}
use mathlib.Core.Path.{◌≡◌, refl, sym, ap, ◌∙◌}
use mathlib.Core.List.{List, [], ◌∷◌, ◌++◌}
use Prim.Native.Nat.{ℕ, zero, suc, ◌+◌, ◌*◌, ◌-◌, ◌≤◌, ◌<◌}
use native.Mathlib.Omega.{arith}
use borrow.Author.Count.{below_more}
use lib.ListN.{length, take, drop, get_or, length-drop, length-append, get_or-append}
use lib.Seq.{length-take-le, get_or-take, get_or-drop, drop_at, ext_get_or}
use Rattle.std.proofs.lemmas.List.{drop-drop}
use Rattle.meaning.specs.Limits.{max_trees, max_nodes}
use Rattle.meaning.specs.Tree.{Tree, Good, Canonical, SameClade}
use Rattle.meaning.specs.Clade.{clade}
use Rattle.meaning.proofs.Clade.{clade-iff, clade-some}
use Rattle.lent.specs.Runs.{Zeros}
use Rattle.holdings.specs.Slots.{Slot, free, held, slot_at}
use Rattle.holdings.specs.Memory.{index_bytes, slot_bytes, slot_in, Shelves}
use Rattle.holdings.proofs.HeldTrees.{not_free, one-tree, held-inside}
use Rattle.holdings.proofs.SlotBytes.{slot-inj}
use Rattle.slot_check.specs.Slot.{Tells, Full}
use Rattle.slot_check.proofs.InOrder.{nothing}
use Rattle.slot_check.proofs.Slots.{zeros-free, free-zeros}

-- xs are the bytes of the slot h, whose tree, where it has one, has the clade l
pub record SlotIs (xs : List ℕ) (l : ℕ) (h : Slot) : Type 0 where
  pub bytes : xs ≡ slot_bytes h
  pub good : (t : Tree) → h ≡ held t → Good t
  pub canonical : (t : Tree) → h ≡ held t → Canonical t
  pub labels : (t : Tree) → h ≡ held t → clade t ≡ l

-- xs are those of some slot
pub record IsSlot (xs : List ℕ) (l : ℕ) : Type 0 where
  pub slot : Slot
  pub is : SlotIs xs l slot

-- zeros are a free one's
pub slot-free : (xs : List ℕ) (l : ℕ) → length xs ≡ max_nodes → Zeros xs 0 max_nodes → IsSlot xs l
slot-free xs l e z = record {
  slot = free;
  is = record {
    bytes = zeros-free max_nodes xs e z;
    good = λ t d. absurd (not_free refl d);
    canonical = λ t d. absurd (not_free refl d);
    labels = λ t d. absurd (not_free refl d);
  };
}

pub slot-full : {xs : List ℕ} {l : ℕ} → Full xs l → IsSlot xs l
slot-full F = record {
  slot = held F.tree;
  is = record {
    bytes = F.bytes;
    good = λ t d. rw (one-tree d refl) F.good;
    canonical = λ t d. rw (one-tree d refl) F.canonical;
    labels = λ t d. ap clade (one-tree d refl) ∙ F.labels;
  };
}

-- no tree has the clade 0, so a slot of that clade is of every
slot-any : {xs : List ℕ} (l : ℕ) → IsSlot xs 0 → IsSlot xs l
slot-any l s = record {
  slot = s.slot;
  is = record {
    bytes = s.is.bytes;
    good = s.is.good;
    canonical = s.is.canonical;
    labels = λ t d. absurd (omega (arith, s.is.labels t d, clade-some t));
  };
}

-- what each number below n has, as a list
record Chosen (P : ℕ → Slot → Type 0) (n : ℕ) : Type 0 where
  slots : List Slot
  many : length slots ≡ n
  each : (y : ℕ) → y < n → P y (slot_at slots y)

choose : (n : ℕ) (P : ℕ → Slot → Type 0) → ((y : ℕ) → y < n → (h : Slot) × P y h) → Chosen P n
choose zero P f = record { slots = []; many = refl; each = λ y l. absurd (omega arith) }
choose (suc n) P f = add (choose n (λ y. P (suc y)) (λ y l. f (suc y) (omega arith)))
  where
    first : (h : Slot) × P 0 h
    first = f 0 (omega arith)

    add : Chosen (λ y. P (suc y)) n → Chosen P (suc n)
    add c = record { slots = first.0 ∷ c.slots; many = ap suc c.many; each = each }
      where
        each : (y : ℕ) → y < suc n → P y (slot_at (first.0 ∷ c.slots) y)
        each zero l = first.1
        each (suc y) l = c.each y (omega arith)

module _ (m : List ℕ) where
  -- a slot is whole
  pub slot-long : index_bytes ≤ length m → (x : ℕ) → x < max_trees → length (slot_in m x) ≡ max_nodes
  slot-long long x h = length-take-le max_nodes (drop (x * max_nodes) m) (omega (arith, length-drop (x * max_nodes) m))

  -- where each slot is one, with one clade, they are those of a set
  module _ (long : index_bytes ≤ length m) (l : ℕ) (all : (y : ℕ) → y < max_trees → IsSlot (slot_in m y) l) where
    abbrev row : Chosen (λ y. SlotIs (slot_in m y) l) max_trees
    row = choose max_trees (λ y. SlotIs (slot_in m y) l) (λ y h. ((all y h).slot, (all y h).is))

    at : (x : ℕ) (t : Tree) → slot_at row.slots x ≡ held t → SlotIs (slot_in m x) l (slot_at row.slots x)
    at x t e = row.each x (omega (arith, held-inside row.slots x e, row.many))

    alike : (x y : ℕ) (t u : Tree) → slot_at row.slots x ≡ held t → slot_at row.slots y ≡ held u → SameClade t u
    alike x y t u e d = (clade-iff ((at x t e).good t e) ((at y u d).good u d)).0 ((at x t e).labels t e ∙ sym ((at y u d).labels u d))

    pub all-shelved : Shelves m
    all-shelved = record {
      slots = row.slots;
      shelved = record {
        long = long;
        trees = record { many = row.many; good = λ x t e. (at x t e).good t e; canonical = λ x t e. (at x t e).canonical t e; alike = alike };
        stand = λ x h. (row.each x h).bytes;
      };
    }

  -- memory with a slot that is none is that of no set
  pub no_slot : (x : ℕ) → x < max_trees → ¬ Zeros (slot_in m x) 0 max_nodes → Tells (Full (slot_in m x)) None → ¬ Shelves m
  no_slot x h z T s = go (slot_at s.slots x) refl
    where
      bytes : (k : Slot) → slot_at s.slots x ≡ k → slot_in m x ≡ slot_bytes k
      bytes k e = s.shelved.stand x h ∙ ap slot_bytes e

      go : (k : Slot) → slot_at s.slots x ≡ k → ⊥
      go free e = z (free-zeros max_nodes (slot_in m x) (bytes free e))
      go (held t) e = nothing T (clade t) (record { tree = t; good = s.shelved.trees.good x t e; canonical = s.shelved.trees.canonical x t e; bytes = bytes (held t) e; labels = refl })

  -- the trees of two slots of a set have one clade
  pub one-clade : (x y : ℕ) {k l : ℕ} → x < max_trees → y < max_trees → Full (slot_in m x) k → Full (slot_in m y) l → Shelves m → k ≡ l
  one-clade x y h g F G s =
      let c = (clade-iff F.good G.good).1 (s.shelved.trees.alike x y F.tree G.tree (has x h F) (has y g G)) in
      sym F.labels ∙ c ∙ G.labels
    where
      has : (x : ℕ) {l : ℕ} → x < max_trees → (F : Full (slot_in m x) l) → slot_at s.slots x ≡ held F.tree
      has x h F = slot-inj (slot_at s.slots x) (held F.tree) (s.shelved.trees.good x) (λ t d. rw (one-tree d refl) F.good) (sym (s.shelved.stand x h) ∙ F.bytes)

  -- the first x slots are slots with the clade l
  abbrev pub Each : ℕ → ℕ → Type 0
  Each x l = (y : ℕ) → y < x → IsSlot (slot_in m y) l

  -- and one of them has a tree with it
  pub record Known (x l : ℕ) : Type 0 where
    pub each : Each x l
    pub place : ℕ
    pub inside : place < x
    pub full : Full (slot_in m place) l

  -- they are slots with the common clade, or all free where there is none
  abbrev pub Passed : ℕ → Option ℕ → Type 0
  Passed x common = MatchOption common (Each x 0) (Known x)

  pub passed_none : Passed 0 None
  passed_none = λ y h. absurd (omega arith)

  module _ (x : ℕ) where
    one-more : {l : ℕ} → IsSlot (slot_in m x) l → Each x l → Each (x + 1) l
    one-more {l} s e = below_more (λ y. IsSlot (slot_in m y) l) x e s

    -- a free slot more
    pub passed-free : (common : Option ℕ) → length (slot_in m x) ≡ max_nodes → Zeros (slot_in m x) 0 max_nodes → Passed x common → Passed (x + 1) common
    passed-free None e z p = one-more (slot-free (slot_in m x) 0 e z) p
    passed-free (Some l) e z p = record { each = one-more (slot-free (slot_in m x) l e z) p.each; place = p.place; inside = omega (arith, p.inside); full = p.full }

    -- a tree more, with the clade r, which is the common one
    pub passed-full : (common : Option ℕ) {r : ℕ} → Full (slot_in m x) r → r ≡ unwrap_or common r → Passed x common → Passed (x + 1) (Some (unwrap_or common r))
    passed-full None F e p = record { each = one-more (slot-full F) (λ y h. slot-any _ (p y h)); place = x; inside = omega arith; full = F }
    passed-full (Some l) F e p = let G = rw e at F in record { each = one-more (slot-full G) p.each; place = p.place; inside = omega (arith, p.inside); full = p.full }

    pub refused-labels : (common : Option ℕ) {r : ℕ} → Full (slot_in m x) r → (r ≡ unwrap_or common r → ⊥) → x < max_trees → Passed x common → ¬ Shelves m
    refused-labels None F n h p s = n refl
    refused-labels (Some l) F n h p s = n (one-clade x p.place h (omega (arith, p.inside)) F p.full s)

  -- what is left to look at begins with a slot
  pub record Along (rest : List ℕ) (size : ℕ) (common : Option ℕ) : Type 0 where
    pub place : ℕ
    pub few : place ≤ max_trees
    pub wide : size ≡ max_nodes
    pub is : rest ≡ drop (place * max_nodes) (take (max_trees * max_nodes) m)
    pub passed : Passed place common

  pub along-none : {rest : List ℕ} {size : ℕ} → rest ≡ take (max_trees * max_nodes) m → size ≡ max_nodes → Along rest size None
  along-none e w = record { place = 0; few = omega arith; wide = w; is = e; passed = passed_none }

  module _ (long : index_bytes ≤ length m) {rest : List ℕ} {size : ℕ} {common : Option ℕ} (A : Along rest size common) where
    abbrev all : List ℕ
    all = take (max_trees * max_nodes) m

    left : length rest ≡ max_trees * max_nodes - A.place * max_nodes
    left = ap length A.is ∙ length-drop (A.place * max_nodes) all ∙ ap (λ (n : ℕ). n - A.place * max_nodes) (length-take-le (max_trees * max_nodes) m (omega (arith, long)))

    -- the next slot is cut off
    module _ (slot rest' : List ℕ) (cut : rest ≡ slot ++ rest') (whole : length slot ≡ size) where
      lens : length rest ≡ length slot + length rest'
      lens = ap length cut ∙ length-append slot rest'

      pub along-inside : A.place < max_trees
      along-inside = omega (arith, left, lens, whole, A.wide)

      pub along-slot : slot ≡ slot_in m A.place
      along-slot = ext_get_or 0 slot (slot_in m A.place) (omega (arith, whole, A.wide, slot-long long A.place along-inside)) byte
        where
          byte : (k : ℕ) → k < length slot → get_or slot k 0 ≡ get_or (slot_in m A.place) k 0
          byte k h =
              let few : k < max_nodes = omega (arith, whole, A.wide) in
              sym (get_or-append slot rest' 0 k h) ∙ ap (λ (l : List ℕ). get_or l k 0) (sym cut ∙ A.is) ∙ get_or-drop (A.place * max_nodes) all k 0
              ∙ get_or-take (max_trees * max_nodes) m (A.place * max_nodes + k) 0 (omega (arith, along-inside, few))
              ∙ sym (get_or-drop (A.place * max_nodes) m k 0) ∙ sym (get_or-take max_nodes (drop (A.place * max_nodes) m) k 0 few)

      pub along-next : {size' : ℕ} {common' : Option ℕ} → size' ≡ size → Passed (A.place + 1) common' → Along rest' size' common'
      along-next e p = record { place = A.place + 1; few = omega (arith, along-inside); wide = e ∙ A.wide; is = next; passed = p }
        where
          next : rest' ≡ drop ((A.place + 1) * max_nodes) all
          next =
              let on : A.place * max_nodes + max_nodes ≡ (A.place + 1) * max_nodes = omega arith in
              sym (drop_at slot rest' max_nodes (whole ∙ A.wide)) ∙ ap (drop max_nodes) (sym cut ∙ A.is) ∙ drop-drop max_nodes (A.place * max_nodes) all ∙ ap (λ (k : ℕ). drop k all) on

    -- none is left
    pub along-all : length rest < size → Shelves m
    along-all h = end common A.passed
      where
        last : max_trees ≤ A.place
        last = omega (arith, left, A.wide, A.few)

        end : (c : Option ℕ) → Passed A.place c → Shelves m
        end None p = all-shelved long 0 (λ y h. p y (omega (arith, last)))
        end (Some l) p = all-shelved long l (λ y h. p.each y (omega (arith, last)))
