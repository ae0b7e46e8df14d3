-- Lists of neighbours: there is one for each number, and it is what the graph call gives for the trees in order of number.
-- Assumes nothing.
use mathlib.Core.Path.{◌≡◌, refl, sym, ap, ◌∙◌, subst}
use mathlib.Core.Logic.{◌↔◌}
use mathlib.Core.Bool.{not}
use mathlib.Core.List.Memᴰ
use mathlib.Core.List.{List, [], ◌∷◌, map, Memᴰ}
use Prim.Native.Nat.{ℕ, zero, suc, ◌+◌, ◌-◌, ◌≤◌, ◌<◌}
use native.Mathlib.Omega.{arith}
use native.Mathlib.Decide.{dec_lt}
use lib.Dec.{T, ltb, ltb→lt, lt→ltb, eqb, not_T, T_not}
use lib.ListN.{length, get_or, length-map}
use Rattle.meaning.specs.Limits.{max_trees}
use Rattle.meaning.specs.Lists.{positions}
use Rattle.meaning.specs.Tree.{Tree, AllGood, Distinct, SameTopology, canon}
use Rattle.meaning.specs.Kind.{rooted, Trees}
use Rattle.meaning.specs.EitherKind.{ApartAs}
use Rattle.meaning.specs.Move.{Apart}
use Rattle.meaning.specs.Listing.{Pair, Listing, tree_of, At, paired}
use Rattle.meaning.specs.Copies.{kept_apart}
use Rattle.meaning.specs.Answer.{accepted, Outcome, GraphSize, FirstsMemory}
use Rattle.meaning.specs.Calls.{firsts_read, firsts_graph_of, ChoosingCall, Lists}
use Rattle.meaning.proofs.Logic.{T_and, T-eq}
use Rattle.meaning.proofs.Same.{topology-sym}
use Rattle.meaning.proofs.Canon.{canon-distinct, canon-topology, topology-iff-canon}
use Rattle.meaning.proofs.Moves.{apart-topology, apart-sym}
use Rattle.meaning.proofs.TableText.{good-at}
use Rattle.meaning.proofs.Calls.{tells-accepted, firsts-tells}
use Rattle.meaning.proofs.Determined.{same-accepted, not-both}
use Rattle.meaning.proofs.Listing.{listing-iff}
use Rattle.meaning.proofs.Counts.{mem-paired, paired-mem, paired-sym}
use Rattle.meaning.proofs.Sorted.{Strict, sorted-same, sorted-among, map-sorted}
use Rattle.meaning.proofs.Keep.{keep-iff, keep-sorted}
use Rattle.meaning.proofs.Positions.{positions-mem, mem-positions, positions-sorted, positions-length}
use Rattle.holdings.specs.Slots.{Slot, free, held, slot_at, HeldTrees, trees, numbers_from, number_at}
use Rattle.holdings.specs.Neighbours.{Linked, linked, Neighbours, partner, partners}
use Rattle.holdings.proofs.HeldTrees.{not_free, one-tree, held-inside}

-- numbers ascend
rising : Strict (λ (_ : ℕ). Unit {0}) ltb
rising = record {
  asym = λ x y t s. omega (arith, ltb→lt x y t, ltb→lt y x s);
  trans = λ x y z t s. lt→ltb x z (omega (arith, ltb→lt x y t, ltb→lt y z s));
  total = λ x y _ _ ne n. let h : ¬ (x < y) = λ l. T_not (ltb x y) n (lt→ltb x y l) in lt→ltb y x (omega arith);
}

-- a number has one list
pub neighbours-unique : {hs : List Slot} {x : ℕ} {ys zs : List ℕ} → Neighbours hs x ys → Neighbours hs x zs → ys ≡ zs
neighbours-unique {ys} {zs} N M =
    sorted-same ltb rising ys zs N.ascending M.ascending (λ y. (λ m. (M.listed y).1 ((N.listed y).0 m), λ m. (N.listed y).1 ((M.listed y).0 m)))

-- there is room for it
pub neighbours-few : {hs : List Slot} {x : ℕ} {ys : List ℕ} → HeldTrees hs → Neighbours hs x ys → length ys ≤ max_trees
neighbours-few {hs} {x} {ys} H N =
    omega (arith, (sorted-among ltb rising.asym ys (positions max_trees) N.ascending (positions-sorted max_trees) (λ y m. mem-positions max_trees y (below y ((N.listed y).0 m)))).0, positions-length max_trees)
  where
    below : (y : ℕ) → Linked hs x y → y < max_trees
    below y (linked e d a) = omega (arith, held-inside hs y d, H.many)

-- the held number at place i, counted from x on, has the tree at position i
number-slot : (x : ℕ) (hs : List Slot) (i : ℕ) → i < length (trees hs) → (x ≤ get_or (numbers_from x hs) i 0) × (slot_at hs (get_or (numbers_from x hs) i 0 - x) ≡ held (tree_of (trees hs) i))
unfolding numbers_from trees
number-slot x [] i h = absurd (omega arith)
number-slot x (free ∷ hs) i h =
    let (l, e) = number-slot (suc x) hs i h in
    let z : get_or (numbers_from (suc x) hs) i 0 - x ≡ suc (get_or (numbers_from (suc x) hs) i 0 - suc x) = omega arith in
    (omega arith, rw z e)
number-slot x (held t ∷ hs) zero h = let z : x - x ≡ 0 = omega arith in (omega arith, rw z)
number-slot x (held t ∷ hs) (suc i) h =
    let (l, e) = number-slot (suc x) hs i (omega arith) in
    let z : get_or (numbers_from (suc x) hs) i 0 - x ≡ suc (get_or (numbers_from (suc x) hs) i 0 - suc x) = omega arith in
    (omega arith, rw z e)

-- each held number has its place
slot-number : (x : ℕ) (hs : List Slot) (y : ℕ) (t : Tree) → slot_at hs y ≡ held t → (i : ℕ) × (i < length (trees hs)) × (get_or (numbers_from x hs) i 0 ≡ x + y) × (tree_of (trees hs) i ≡ t)
unfolding numbers_from trees
slot-number x [] y t e = absurd (not_free refl e)
slot-number x (free ∷ hs) zero t e = absurd (not_free refl e)
slot-number x (free ∷ hs) (suc y) t e = let (i, h, n, s) = slot-number (suc x) hs y t e in (i, h, omega arith, s)
slot-number x (held u ∷ hs) zero t e = (0, omega arith, omega arith, one-tree refl e)
slot-number x (held u ∷ hs) (suc y) t e = let (i, h, n, s) = slot-number (suc x) hs y t e in (suc i, omega arith, omega arith, s)

numbers-rise : (x : ℕ) (hs : List Slot) (i j : ℕ) → i < j → j < length (trees hs) → get_or (numbers_from x hs) i 0 < get_or (numbers_from x hs) j 0
unfolding numbers_from trees
numbers-rise x [] i j h l = absurd (omega arith)
numbers-rise x (free ∷ hs) i j h l = numbers-rise (suc x) hs i j h l
numbers-rise x (held t ∷ hs) i zero h l = absurd (omega arith)
numbers-rise x (held t ∷ hs) zero (suc j) h l = (number-slot (suc x) hs j (omega arith)).0
numbers-rise x (held t ∷ hs) (suc i) (suc j) h l = numbers-rise (suc x) hs i j (omega arith) (omega arith)

-- the partners of a position are the trees one move apart from its own
module _ (ts : List Tree) (D : (i : ℕ) → i < length ts → Distinct (tree_of ts i)) {ps : List Pair} (L : Listing (length ts) (At Apart ts) ps) where
  partner-apart : (i j : ℕ) → i < length ts → j < length ts → T (partner ps i j) → Apart (tree_of ts i) (tree_of ts j)
  partner-apart i j h l t =
      let (n, q) = (T_and (not (eqb i j)) (paired ps i j)).0 t in
      go (dec_lt i j) (λ e. T_not (eqb i j) n ((T-eq i j).1 e)) q
    where
      go : Dec (i < j) → (i ≡ j → ⊥) → T (paired ps i j) → Apart (tree_of ts i) (tree_of ts j)
      go (yes g) n q = ((L.listed i j).0 (paired-mem L g q)).2
      go (no g) n q =
          let g' : j < i = omega arith in
          apart-sym (D j l) (D i h) ((L.listed j i).0 (paired-mem L g' (subst T (paired-sym ps i j) q))).2

  apart-partner : (i j : ℕ) → i < length ts → j < length ts → Apart (tree_of ts i) (tree_of ts j) → T (partner ps i j)
  apart-partner i j h l a = (T_and (not (eqb i j)) (paired ps i j)).1 (not_T (eqb i j) (λ t. self ((T-eq i j).0 t)), go (dec_lt i j))
    where
      same : SameTopology (tree_of ts i) (tree_of ts i)
      same = (topology-iff-canon (D i h) (D i h)).1 refl

      self : i ≡ j → ⊥
      self e = a.0 (subst (λ (k : ℕ). SameTopology (tree_of ts i) (tree_of ts k)) e same)

      go : Dec (i < j) → T (paired ps i j)
      go (yes g) = mem-paired ((L.listed i j).1 (g, l, a))
      go (no g) =
          let g' : j < i = omega (arith, self) in
          subst T (paired-sym ps j i) (mem-paired ((L.listed j i).1 (g', h, apart-sym (D i h) (D j l) a)))

module _ {hs : List Slot} (H : HeldTrees hs) where
  abbrev k : ℕ
  k = length (trees hs)

  -- the held number at place i has the tree at position i
  pub at_place : (i : ℕ) → i < k → slot_at hs (number_at hs i) ≡ held (tree_of (trees hs) i)
  at_place i h = let z : number_at hs i - 0 ≡ number_at hs i = omega arith in rw z at (number-slot 0 hs i h).1

  trees-distinct : (i : ℕ) → i < k → Distinct (tree_of (trees hs) i)
  trees-distinct i h = (H.good (number_at hs i) (tree_of (trees hs) i) (at_place i h)).distinct

  -- the partners of a position, read as held numbers, are the list of neighbours
  pub partners-listed : {ps : List Pair} → Listing k (At Apart (trees hs)) ps → (i : ℕ) → i < k → Neighbours hs (number_at hs i) (map (number_at hs) (partners k ps i))
  partners-listed {ps} L i h = record {
    ascending = map-sorted ltb ltb (number_at hs) (partners k ps i) (λ a b m n t. lt→ltb (number_at hs a) (number_at hs b) (numbers-rise 0 hs a b (ltb→lt a b t) (below b n))) (keep-sorted (partner ps i) ltb (positions k) (positions-sorted k));
    listed = λ y. (λ m. let (j, n, e) = Memᴰ.of_map (number_at hs) (partners k ps i) m in subst (Linked hs (number_at hs i)) e (to j n), from y);
  }
    where
      below : (j : ℕ) → Memᴰ j (partners k ps i) → j < k
      below j m = positions-mem k ((keep-iff (partner ps i) (positions k) j).0 m).0

      to : (j : ℕ) → Memᴰ j (partners k ps i) → Linked hs (number_at hs i) (number_at hs j)
      to j m = linked (at_place i h) (at_place j (below j m)) (partner-apart (trees hs) trees-distinct L i j h (below j m) ((keep-iff (partner ps i) (positions k) j).0 m).1)

      from : (y : ℕ) → Linked hs (number_at hs i) y → Memᴰ y (map (number_at hs) (partners k ps i))
      from y (linked {t} {u} e d a) =
          let (j, l, n, s) = slot-number 0 hs y u d in
          let n' : y ≡ number_at hs j = omega arith in
          let b : Apart (tree_of (trees hs) i) (tree_of (trees hs) j) = rw (one-tree (at_place i h) e, s) a in
          Memᴰ.cast n' (Memᴰ.map (number_at hs) ((keep-iff (partner ps i) (positions k) j).1 (mem-positions k j l, apart-partner (trees hs) trees-distinct L i j h l b)))

-- the tree at a position, in canonical form
tree_of-canon : (ts : List Tree) (i : ℕ) → i < length ts → tree_of (map canon ts) i ≡ canon (tree_of ts i)
tree_of-canon [] i h = absurd (omega arith)
tree_of-canon (t ∷ ts) zero h = refl
tree_of-canon (t ∷ ts) (suc i) h = tree_of-canon ts i (omega arith)

-- trees as they were written and in canonical form have the same listing
listing-canon : (ts : List Tree) → AllGood ts → {ps : List Pair} → Listing (length ts) (At Apart ts) ps → Listing (length (map canon ts)) (At Apart (map canon ts)) ps
listing-canon ts G L =
    simp length-map (listing-iff (λ i j h l. let h' : i < length ts = omega arith in rw (tree_of-canon ts i h', tree_of-canon ts j l) (swap i j h' l)) L)
  where
    swap : (i j : ℕ) → i < length ts → j < length ts → Apart (tree_of ts i) (tree_of ts j) ↔ Apart (canon (tree_of ts i)) (canon (tree_of ts j))
    swap i j h l =
        let D = (good-at ts G i h).distinct in
        let E = (good-at ts G j l).distinct in
        let D' = canon-distinct (tree_of ts i) D in
        let E' = canon-distinct (tree_of ts j) E in
        let x = canon-topology (tree_of ts i) in
        let y = canon-topology (tree_of ts j) in
        (apart-topology D D' E E' (topology-sym x) (topology-sym y), apart-topology D' D E' E x y)

-- what the graph call with copies kept apart wrote for a text of the held trees in order of number, and each list of neighbours
pub record SameLists (hs : List Slot) (ts : List Tree) (memory : FirstsMemory) (o : Outcome GraphSize FirstsMemory) : Type 0 where
  pub pairs : List Pair
  pub gives : o ≡ firsts_graph_of ts pairs memory
  pub lists : (i : ℕ) → i < length ts → (ys : List ℕ) → Neighbours hs (number_at hs i) ys → ys ≡ map (number_at hs) (partners (length ts) pairs i)

-- its listing
listing-of : (s : List ℕ) (memory : FirstsMemory) {o : Outcome GraphSize FirstsMemory} {ts : List Tree} → firsts_read s memory ≡ accepted (record { kind = rooted; trees = ts })
    → ChoosingCall kept_apart s memory o → (ps : List Pair) × (o ≡ firsts_graph_of ts ps memory) × Listing (length ts) (At Apart ts) ps
listing-of s memory e (Lists.lists table ps d L) = go (same-accepted d e) L
  where
    go : {table ts' : Trees} → table ≡ ts' → Listing (length table.trees) (At (ApartAs table.kind) table.trees) ps
        → (qs : List Pair) × (firsts_graph_of table.trees ps memory ≡ firsts_graph_of ts'.trees qs memory) × Listing (length ts'.trees) (At (ApartAs ts'.kind) ts'.trees) qs
    go {table} q L = (ps, ap (λ (v : Trees). firsts_graph_of v.trees ps memory) q, subst (λ (v : Trees). Listing (length v.trees) (At (ApartAs v.kind) v.trees) ps) q L)
listing-of s memory e (Lists.refuses n i p d) = absurd (not-both e d)

-- each list is what the graph call gives, each position read as the held number at that place
pub index-lists : {hs : List Slot} (s : List ℕ) (memory : FirstsMemory) {o : Outcome GraphSize FirstsMemory} {ts : List Tree} → HeldTrees hs
    → firsts_read s memory ≡ accepted (record { kind = rooted; trees = ts }) → map canon ts ≡ trees hs → ChoosingCall kept_apart s memory o → SameLists hs ts memory o
index-lists {hs} s memory {ts} H e c g =
    let (ps, x, L) = listing-of s memory e g in
    let M = listing-canon ts (tells-accepted (firsts-tells s memory) e).good L in
    let L' : Listing (length (trees hs)) (At Apart (trees hs)) ps = rw c at M in
    let n : length ts ≡ length (trees hs) = sym (length-map ts canon) ∙ ap length c in
    record { pairs = ps; gives = x; lists = λ i h ys N. rw n (neighbours-unique N (partners-listed H L' i (omega arith))) }
