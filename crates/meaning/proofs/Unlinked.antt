-- Copies and unlinked numbers: each position is a copy of the tree at i, or its neighbour, or unlinked, and only one of these.
-- Assumes nothing.
use mathlib.Core.Path.{◌≡◌, refl, sym, ap, subst, ◌∙◌}
use mathlib.Core.Logic.{◌↔◌, ◌⊎◌, inl, inr}
use mathlib.Core.Bool.{Bool, true, false, ◌&&◌, not}
use mathlib.Core.List.{List}
use Prim.Native.Nat.{ℕ, ◌+◌, ◌<◌}
use native.Mathlib.Nat.{min-eq_left, min-eq_right, max-eq_left, max-eq_right}
use native.Mathlib.Omega.{arith}
use native.Mathlib.Decide.{dec_lt}
use borrow.Author.Tests.{eq-eqb}
use lib.Dec.{T, T_not, not_T, eqb, eqb→eq}
use lib.ListN.{length}
use Rattle.meaning.specs.Lists.{count, positions, bit}
use Rattle.meaning.specs.Tree.{Tree, AllGood, SameTopology, canon}
use Rattle.meaning.specs.Kind.{Kind}
use Rattle.meaning.specs.EitherKind.{SameAs, ApartAs}
use Rattle.meaning.specs.Listing.{Pair, Listing, At, tree_of, neighbours, copy_of, paired, copies, unlinked_from, unlinked}
use Rattle.meaning.proofs.Logic.{T_and, cases, iff-then}
use Rattle.meaning.proofs.Decide.{eq_tree-iff, same_topology-iff}
use Rattle.meaning.proofs.TableText.{good-at}
use Rattle.meaning.proofs.EitherKind.{AllStand, topology-same_as, same-iff-canon_as, apart-sym_as}
use Rattle.meaning.proofs.Sums.{count-positions, upto_add, upto-same, upto-const, upto-term, bit-one, bit-none}
use Rattle.meaning.proofs.Counts.{is_linked, mem-paired, paired-mem, paired-sym, neighbours-paired}

-- ---- copies
-- copies have one canonical form
pub copy-canon : (ts : List Tree) (i j : ℕ) → T (copy_of ts i j) ↔ (canon (tree_of ts i) ≡ canon (tree_of ts j))
copy-canon ts i j = eq_tree-iff (canon (tree_of ts i)) (canon (tree_of ts j))

-- that is, one topology
pub copy-iff : (ts : List Tree) → AllGood ts → (i j : ℕ) → i < length ts → j < length ts → T (copy_of ts i j) ↔ SameTopology (tree_of ts i) (tree_of ts j)
copy-iff ts G i j h l = same_topology-iff (tree_of ts i) (tree_of ts j) (good-at ts G i h).distinct (good-at ts G j l).distinct

-- ---- the three kinds of positions
-- where c, e and p say whether j is a copy of i, is i, and is paired with i
one-kind : (c e p : Bool) → (T e → T c) → (T p → T (not e) → ¬ T c) → bit (not c && not p) + bit (not e && p) + bit c ≡ 1
one-kind true true p f g = refl
one-kind true false true f g = absurd (g tt tt tt)
one-kind true false false f g = refl
one-kind false true p f g = absurd (f tt)
one-kind false false true f g = refl
one-kind false false false f g = refl

-- a position is a copy of itself
itself : (ts : List Tree) (i j : ℕ) → T (eqb i j) → T (copy_of ts i j)
itself ts i j t = (copy-canon ts i j).1 (ap (λ (x : ℕ). canon (tree_of ts x)) (eqb→eq i j t))

-- a pair joins positions in either order
linked-paired : (ps : List Pair) (i j : ℕ) → is_linked (paired ps) i j ≡ (not (eqb i j) && paired ps i j)
linked-paired ps i j = go (dec_lt i j)
  where
    go : Dec (i < j) → is_linked (paired ps) i j ≡ (not (eqb i j) && paired ps i j)
    go (yes h) = rw (min-eq_left {n = i} {m = j} (omega arith), max-eq_right {n = i} {m = j} (omega arith))
    go (no n) = rw (min-eq_right {n = j} {m = i} (omega arith), max-eq_left {n = i} {m = j} (omega arith), paired-sym ps j i)

-- a position is other than another, in order or out of it
other : (i j : ℕ) → T (not (eqb i j)) → (i < j) ⊎ (j < i)
other i j t = go (dec_lt i j) (dec_lt j i)
  where
    go : Dec (i < j) → Dec (j < i) → (i < j) ⊎ (j < i)
    go (yes h) _ = inl h
    go (no n) (yes h) = inr h
    go (no n) (no m) = absurd (T_not (eqb i j) t (subst T (sym (eq-eqb i j (omega arith))) tt))

-- a test that passes at none of the positions
count_none : (test : ℕ → Bool) (k : ℕ) → count test (positions k) ≡ 0 → (j : ℕ) → j < k → ¬ T (test j)
count_none test k e j l t = absurd (omega (arith, e, count-positions test k, upto-term (λ j. bit (test j)) k j l, bit-one (test j) t))

none-count : (test : ℕ → Bool) (k : ℕ) → ((j : ℕ) → j < k → ¬ T (test j)) → count test (positions k) ≡ 0
none-count test k f = count-positions test k ∙ upto-same (λ j. bit (test j)) (λ _. 0) k (λ j l. bit-none (test j) (f j l)) ∙ omega (arith, upto-const 0 k)

-- in a listing whose pairs are never copies
module _ (ts : List Tree) {L : ℕ → ℕ → Type 0} {ps : List Pair} (H : Listing (length ts) L ps) (differ : (i j : ℕ) → i < j → j < length ts → L i j → ¬ T (copy_of ts i j)) where
  paired-differ : (i j : ℕ) → i < length ts → j < length ts → T (paired ps i j) → T (not (eqb i j)) → ¬ T (copy_of ts i j)
  paired-differ i j h l t n c = go (other i j n)
    where
      go : (i < j) ⊎ (j < i) → ⊥
      go (inl g) = differ i j g l ((H.listed i j).0 (paired-mem H g t)).2 c
      go (inr g) = differ j i g h ((H.listed j i).0 (paired-mem H g (subst T (paired-sym ps i j) t))).2 ((copy-canon ts j i).1 (sym ((copy-canon ts i j).0 c)))

  -- the unlinked, the neighbours and the copies are all the trees
  pub unlinked-sum : (i : ℕ) → i < length ts → unlinked ts ps i + neighbours ps i + copies ts i ≡ length ts
  unlinked-sum i h =
      let k = length ts in
      let u : ℕ → ℕ = λ j. bit (unlinked_from ts ps i j) in
      let n : ℕ → ℕ = λ j. bit (is_linked (paired ps) i j) in
      let c : ℕ → ℕ = λ j. bit (copy_of ts i j) in
      omega (
        arith,
        count-positions (unlinked_from ts ps i) k,
        neighbours-paired H i h,
        count-positions (is_linked (paired ps) i) k,
        count-positions (copy_of ts i) k,
        upto_add (λ j. u j + n j) c k,
        upto_add u n k,
        upto-same (λ j. u j + n j + c j) (λ _. 1) k (λ j l.
            rw (linked-paired ps i j) (one-kind (copy_of ts i j) (eqb i j) (paired ps i j) (itself ts i j) (paired-differ i j h l))),
        upto-const 1 k,
      )

-- ---- the listing of the trees that are one move apart, of either kind
-- a neighbour is no copy, so with the neighbours and the copies the unlinked are all the trees
pub unlinked-neighbours-copies : (k : Kind) (ts : List Tree) → AllGood ts → {ps : List Pair} → Listing (length ts) (At (ApartAs k) ts) ps
    → (i : ℕ) → i < length ts → unlinked ts ps i + neighbours ps i + copies ts i ≡ length ts
unlinked-neighbours-copies k ts G H =
    unlinked-sum ts H (λ i j g l a c.
    let h : i < length ts = omega arith in
    a.0 (topology-same_as k (tree_of ts i) (tree_of ts j) (good-at ts G i h).distinct (good-at ts G j l).distinct ((copy-iff ts G i j h l).0 c)))

-- copies are trees of one topology, of either kind
pub copy-iff_as : (k : Kind) (ts : List Tree) → AllGood ts → AllStand k ts → (i j : ℕ) → i < length ts → j < length ts → T (copy_of ts i j) ↔ SameAs k (tree_of ts i) (tree_of ts j)
copy-iff_as k ts G S i j h l =
    let same = same-iff-canon_as k (tree_of ts i) (tree_of ts j) (good-at ts G i h).distinct (good-at ts G j l).distinct in
    iff-then (copy-canon ts i j) (λ e. same.1 (S i h ∙ e ∙ sym (S j l)), λ e. sym (S i h) ∙ same.0 e ∙ S j l)

module _ (k : Kind) (ts : List Tree) (G : AllGood ts) (S : AllStand k ts) {ps : List Pair} (H : Listing (length ts) (At (ApartAs k) ts) ps) where
  module _ (i j : ℕ) (h : i < length ts) (l : j < length ts) where
    same : T (copy_of ts i j) ↔ SameAs k (tree_of ts i) (tree_of ts j)
    same = copy-iff_as k ts G S i j h l

    -- two positions stand in a pair where their trees are one move apart
    pub paired-iff : ¬ T (copy_of ts i j) → T (paired ps i j) ↔ ApartAs k (tree_of ts i) (tree_of ts j)
    paired-iff differ = go (other i j (not_T (eqb i j) (λ t. differ (itself ts i j t))))
      where
        go : (i < j) ⊎ (j < i) → T (paired ps i j) ↔ ApartAs k (tree_of ts i) (tree_of ts j)
        go (inl g) = (λ t. ((H.listed i j).0 (paired-mem H g t)).2, λ a. mem-paired ((H.listed i j).1 (g, l, a)))
        go (inr g) =
            let D = (good-at ts G i h).distinct in
            let E = (good-at ts G j l).distinct in (
              λ t. apart-sym_as k (tree_of ts j) (tree_of ts i) E D ((H.listed j i).0 (paired-mem H g (subst T (paired-sym ps i j) t))).2,
              λ a. subst T (paired-sym ps j i) (mem-paired ((H.listed j i).1 (g, h, apart-sym_as k (tree_of ts i) (tree_of ts j) D E a))),
            )

    -- the unlinked are those that have another topology and are not one move apart
    pub unlinked-iff : T (unlinked_from ts ps i j) ↔ ((¬ SameAs k (tree_of ts i) (tree_of ts j)) × (¬ ApartAs k (tree_of ts i) (tree_of ts j)))
    unlinked-iff = (
      λ t.
          let (f, g) = (T_and (not (copy_of ts i j)) (not (paired ps i j))).0 t in
          let differ = T_not (copy_of ts i j) f in
          (λ e. differ (same.1 e), λ a. T_not (paired ps i j) g ((paired-iff differ).1 a)),
      λ x.
          let differ : ¬ T (copy_of ts i j) = λ c. x.0 (same.0 c) in
          (T_and (not (copy_of ts i j)) (not (paired ps i j))).1 (not_T (copy_of ts i j) differ, not_T (paired ps i j) (λ t. x.1 ((paired-iff differ).0 t))),
    )

  -- and there is none exactly where all trees of other topologies are neighbours
  pub unlinked-none : (i : ℕ) → i < length ts
      → (unlinked ts ps i ≡ 0) ↔ ((j : ℕ) → j < length ts → ¬ SameAs k (tree_of ts i) (tree_of ts j) → ApartAs k (tree_of ts i) (tree_of ts j))
  unlinked-none i h = (
    λ e j l n.
        let differ : ¬ T (copy_of ts i j) = λ c. n ((same i j h l).0 c) in
        cases (λ b. paired ps i j ≡ b → ApartAs k (tree_of ts i) (tree_of ts j)) (paired ps i j)
        (λ _ p. (paired-iff i j h l differ).0 (subst T (sym p) tt))
        (λ _ p. absurd (count_none (unlinked_from ts ps i) (length ts) e j l ((T_and (not (copy_of ts i j)) (not (paired ps i j))).1 (not_T (copy_of ts i j) differ, rw p tt)))) refl,
    λ f. none-count (unlinked_from ts ps i) (length ts) (λ j l t. let x = (unlinked-iff i j h l).0 t in x.1 (f j l x.0)),
  )
