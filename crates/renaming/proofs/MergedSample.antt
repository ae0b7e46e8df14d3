-- The merged graph and the islands of one sample: topologies are linked after it exactly when they were before, and trees stay on one island.
-- Assumes nothing.
use mathlib.Core.Path.{◌≡◌, refl, sym, ap, subst, subst₂, ◌∙◌}
use mathlib.Core.Logic.{◌↔◌, ◌⊎◌, inl, inr}
use mathlib.Core.List.{List, map}
use Prim.Native.Nat.{ℕ, ◌<◌}
use native.Mathlib.Omega.{arith}
use lib.Dec.{T, eqb}
use lib.ListN.{length, get_or}
use lib.Seq.{ext_get_or}
use Rattle.meaning.specs.Lists.{bit, count, positions, upto}
use Rattle.meaning.specs.Tree.{Tree, AllGood, Distinct}
use Rattle.meaning.specs.Kind.{Kind}
use Rattle.meaning.specs.EitherKind.{SameAs}
use Rattle.meaning.specs.Listing.{Pair, Listing, At, tree_of, copy_of}
use Rattle.meaning.specs.Islands.{Joined, Chain, here, step, size}
use Rattle.meaning.specs.Copies.{first_of, merged, LinkedBy, MergedIslands}
use Rattle.meaning.proofs.Logic.{T-eq}
use Rattle.meaning.proofs.EitherKind.{AllStand, same-sym_as}
use Rattle.meaning.proofs.TableText.{good-at}
use Rattle.meaning.proofs.Unlinked.{copy-iff_as}
use Rattle.meaning.proofs.Sums.{map-length, map_at, count_map, count-positions, upto-same, bit-iff}
use Rattle.meaning.proofs.Islands.{chain-then, chain-one}
use Rattle.meaning.proofs.Copies.{first-inside, first-own, first-iff}
use Rattle.meaning.proofs.MergedIslands.{merged-iff}
use Rattle.renaming.specs.Reordering.{Order, came}
use Rattle.renaming.specs.Outcomes.{SameIslands}
use Rattle.renaming.proofs.Orders.{came-inside, came-once, went, sum-came}
use Rattle.renaming.proofs.MovedPairs.{Mutual, Carried, joined-iff}
use Rattle.renaming.proofs.Sample.{OfTopologies}

-- ---- one table
module _ {k : Kind} {R : Tree → Tree → Type 0} (O : OfTopologies k R) (ts : List Tree) (G : AllGood ts) (W : AllStand k ts) {ps : List Pair} (P : Listing (length ts) (LinkedBy merged R ts) ps) where
  distinct : (i : ℕ) → i < length ts → Distinct (tree_of ts i)
  distinct i h = (good-at ts G i h).distinct

  -- a position's first has its topology
  first-same : (i : ℕ) → i < length ts → SameAs k (tree_of ts i) (tree_of ts (first_of ts i))
  first-same i h = let l = first-inside ts i h in (copy-iff_as k ts G W i (first_of ts i) h l).0 ((first-iff ts i h (first_of ts i) l).0 (first-own ts i h))

  pub linked-mutual : Mutual (length ts) (LinkedBy merged R ts)
  linked-mutual = record {
    turns = λ i j h l a. (a.1, a.0, O.turns (tree_of ts i) (tree_of ts j) (distinct i h) (distinct j l) a.2);
    differ = λ i h a. O.differ (tree_of ts i) (distinct i h) a.2;
  }

  -- the firsts of two positions are a listed pair exactly when the trees there are related
  pub joined-firsts : (i j : ℕ) → i < length ts → j < length ts → Joined ps (first_of ts i) (first_of ts j) ↔ At R ts i j
  joined-firsts i j h l =
      let a = first_of ts i in
      let b = first_of ts j in
      let a_in = first-inside ts i h in
      let b-in = first-inside ts j l in
      let e = joined-iff linked-mutual P a b a_in b-in in (
        λ m. O.same (tree_of ts a) (tree_of ts i) (tree_of ts b) (tree_of ts j) (distinct a a_in) (distinct i h) (distinct b b-in) (distinct j l)
            (same-sym_as k (tree_of ts i) (tree_of ts a) (first-same i h)) (same-sym_as k (tree_of ts j) (tree_of ts b) (first-same j l)) (e.0 m).2,
        λ r. e.1 (
          first-own ts i h,
          first-own ts j l,
          O.same (tree_of ts i) (tree_of ts a) (tree_of ts j) (tree_of ts b) (distinct i h) (distinct a a_in) (distinct j l) (distinct b b-in) (first-same i h) (first-same j l) r,
        ),
      )

  -- a step between copies, or between related trees
  abbrev pub Step : ℕ → ℕ → Type 0
  Step i j = (i < length ts) × (j < length ts) × (T (copy_of ts i j) ⊎ At R ts i j)

  copy_step : (i : ℕ) → i < length ts → Step i (first_of ts i) × Step (first_of ts i) i
  copy_step i h =
      let l = first-inside ts i h in
      ((h, l, inl ((first-iff ts i h (first_of ts i) l).0 (first-own ts i h))), (l, h, inl ((first-iff ts (first_of ts i) l i h).0 (sym (first-own ts i h)))))

  joined_step : (x y : ℕ) → Joined ps x y → Step x y
  joined_step x y (inl m) = let (lt, l, r) = (P.listed x y).0 m in (let h : x < length ts = omega arith in h, l, inr r.2)
  joined_step x y (inr m) =
      let (lt, l, r) = (P.listed y x).0 m in
      let h : y < length ts = omega arith in
      (l, h, inr (O.turns (tree_of ts y) (tree_of ts x) (distinct y h) (distinct x l) r.2))

  steps : {x y : ℕ} → Chain (Joined ps) x y → Chain Step x y
  steps here = here
  steps (step {i} {j} s c) = step (joined_step i j s) (steps c)

  firsts-step : (x y : ℕ) → Step x y → Chain (Joined ps) (first_of ts x) (first_of ts y)
  firsts-step x y (h, l, inl c) = subst (Chain (Joined ps) (first_of ts x)) (sym ((first-iff ts x h y l).1 c)) here
  firsts-step x y (h, l, inr r) = chain-one ((joined-firsts x y h l).1 r)

  firsts-steps : {x y : ℕ} → Chain Step x y → Chain (Joined ps) (first_of ts x) (first_of ts y)
  firsts-steps here = here
  firsts-steps (step {i} {j} s c) = chain-then (firsts-step i j s) (firsts-steps c)

  -- a chain joins the firsts exactly when steps lead from one position to the other
  pub chain-iff : (i j : ℕ) → i < length ts → j < length ts → Chain (Joined ps) (first_of ts i) (first_of ts j) ↔ Chain Step i j
  chain-iff i j h l = (λ c. step (copy_step i h).0 (chain-then (steps c) (chain-one (copy_step j l).1)), λ c. firsts-steps c)

-- ---- steps before and after
module _ {n : ℕ} {order : List ℕ} (O : Order n order) {J J' : ℕ → ℕ → Type 0} (inside : (x y : ℕ) → J x y → y < n) (inside' : (x y : ℕ) → J' x y → (x < n) × (y < n))
    (agree : (i j : ℕ) → i < n → j < n → J' i j ↔ J (came order i) (came order j)) where
  chain-went : {i j : ℕ} → Chain J' i j → Chain J (came order i) (came order j)
  chain-went here = here
  chain-went (step {i} {j} s c) = let (h, l) = inside' i j s in step ((agree i j h l).0 s) (chain-went c)

  chain-came : {x y : ℕ} → Chain J x y → (i j : ℕ) → i < n → j < n → came order i ≡ x → came order j ≡ y → Chain J' i j
  chain-came here i j h l e d = subst (Chain J' i) (came-once O i j h l (e ∙ sym d)) here
  chain-came (step {i = x} {j = y} s c) i j h l e d =
      let (m, g, u) = went O y (inside x y s) in
      step ((agree i m h g).1 (subst₂ J (sym e) (sym u) s)) (chain-came c m j g l u d)

  pub chain-moved : (i j : ℕ) → i < n → j < n → Chain J' i j ↔ Chain J (came order i) (came order j)
  chain-moved i j h l = (λ c. chain-went c, λ c. chain-came c i j h l refl refl)

-- the size of an island is a sum over the positions
numbers-at : (ms : List ℕ) → map (λ i. get_or ms i 0) (positions (length ms)) ≡ ms
numbers-at ms =
    let at : ℕ → ℕ = λ i. get_or ms i 0 in
    let n = length ms in
    ext_get_or 0 (map at (positions n)) ms (map-length at n) (λ i h. map_at at n i (omega (arith, map-length at n)))

size-sum : (ms : List ℕ) {n : ℕ} → length ms ≡ n → (m : ℕ) → size ms m ≡ upto (λ j. bit (eqb (get_or ms j 0) m)) n
size-sum ms {n} e m =
    ap (λ (xs : List ℕ). size xs m) (sym (numbers-at ms))
    ∙ count_map (λ x. eqb x m) (λ i. get_or ms i 0) (positions (length ms))
    ∙ ap (λ (k : ℕ). count (λ j. eqb (get_or ms j 0) m) (positions k)) e
    ∙ count-positions (λ j. eqb (get_or ms j 0) m) n

-- ---- one sample in two tables
module _ {k : Kind} {R : Tree → Tree → Type 0} (O : OfTopologies k R) (ts us : List Tree) (many : length us ≡ length ts) (G : AllGood ts) (G' : AllGood us) (W : AllStand k ts) (W' : AllStand k us)
    {order : List ℕ} (C : Carried (length ts) order (At R ts) (At R us)) (same : (i j : ℕ) → i < length ts → j < length ts → T (copy_of us i j) ↔ T (copy_of ts (came order i) (came order j)))
    {ps qs : List Pair} (P : Listing (length ts) (LinkedBy merged R ts) ps) (Q : Listing (length us) (LinkedBy merged R us) qs) where
  in-us : (i : ℕ) → i < length ts → i < length us
  in-us i h = omega (arith, many)

  from : (i : ℕ) → i < length ts → came order i < length ts
  from i h = came-inside C.placed i h

  -- copies are copies
  pub firsts-moved : (i j : ℕ) → i < length ts → j < length ts → (first_of us i ≡ first_of us j) ↔ (first_of ts (came order i) ≡ first_of ts (came order j))
  firsts-moved i j h l =
      let a = first-iff us j (in-us j l) i (in-us i h) in
      let b = first-iff ts (came order j) (from j l) (came order i) (from i h) in
      let c = same j i l h in
      (λ e. b.1 (c.0 (a.0 e)), λ e. a.1 (c.1 (b.0 e)))

  -- two topologies are a listed pair after it exactly when they were before
  pub topologies-joined : (i j : ℕ) → i < length ts → j < length ts → Joined qs (first_of us i) (first_of us j) ↔ Joined ps (first_of ts (came order i)) (first_of ts (came order j))
  topologies-joined i j h l =
      let a = joined-firsts O us G' W' Q i j (in-us i h) (in-us j l) in
      let b = joined-firsts O ts G W P (came order i) (came order j) (from i h) (from j l) in
      let c = C.agree i j h l in
      (λ m. b.1 (c.0 (a.0 m)), λ m. a.1 (c.1 (b.0 m)))

  step-moved : (i j : ℕ) → i < length ts → j < length ts → Step O us G' W' Q i j ↔ Step O ts G W P (came order i) (came order j)
  step-moved i j h l = (to, back)
    where
      to : Step O us G' W' Q i j → Step O ts G W P (came order i) (came order j)
      to (_, _, inl c) = (from i h, from j l, inl ((same i j h l).0 c))
      to (_, _, inr r) = (from i h, from j l, inr ((C.agree i j h l).0 r))

      back : Step O ts G W P (came order i) (came order j) → Step O us G' W' Q i j
      back (_, _, inl c) = (in-us i h, in-us j l, inl ((same i j h l).1 c))
      back (_, _, inr r) = (in-us i h, in-us j l, inr ((C.agree i j h l).1 r))

  pub islands-moved : {ms ns : List ℕ} → MergedIslands ts ps ms → MergedIslands us qs ns → SameIslands order (length ts) ms ns
  islands-moved {ms} {ns} I J = record {
    together = together;
    sizes = λ i h.
        size-sum ns (J.many ∙ many) (get_or ns i 0)
        ∙ upto-same (λ j. bit (eqb (get_or ns j 0) (get_or ns i 0))) (λ j. bit (eqb (get_or ms (came order j) 0) (get_or ms (came order i) 0))) (length ts) (λ j l. same_bit j i l h)
        ∙ sum-came C.placed (λ j. bit (eqb (get_or ms j 0) (get_or ms (came order i) 0)))
        ∙ sym (size-sum ms I.many (get_or ms (came order i) 0));
  }
    where
      together : (i j : ℕ) → i < length ts → j < length ts → (get_or ns i 0 ≡ get_or ns j 0) ↔ (get_or ms (came order i) 0 ≡ get_or ms (came order j) 0)
      together i j h l =
          let a = merged-iff J i j (in-us i h) (in-us j l) in
          let b = chain-iff O us G' W' Q i j (in-us i h) (in-us j l) in
          let inside : (x y : ℕ) → Step O us G' W' Q x y → (x < length ts) × (y < length ts) = λ x y s.
          let u : x < length ts = omega (arith, s.0, many) in
          let v : y < length ts = omega (arith, s.1, many) in
          (u, v) in
          let c = chain-moved C.placed {J = Step O ts G W P} {J' = Step O us G' W' Q} (λ x y s. s.1) inside step-moved i j h l in
          let d = chain-iff O ts G W P (came order i) (came order j) (from i h) (from j l) in
          let e = merged-iff I (came order i) (came order j) (from i h) (from j l) in
          (λ x. e.1 (d.1 (c.0 (b.0 (a.0 x)))), λ x. a.1 (b.1 (c.1 (d.0 (e.0 x)))))

      same_bit : (i j : ℕ) → i < length ts → j < length ts → bit (eqb (get_or ns i 0) (get_or ns j 0)) ≡ bit (eqb (get_or ms (came order i) 0) (get_or ms (came order j) 0))
      same_bit i j h l =
          let a = T-eq (get_or ns i 0) (get_or ns j 0) in
          let b = T-eq (get_or ms (came order i) 0) (get_or ms (came order j) 0) in
          let c = together i j h l in
          bit-iff (eqb (get_or ns i 0) (get_or ns j 0)) (eqb (get_or ms (came order i) 0) (get_or ms (came order j) 0)) (λ x. b.1 (c.0 (a.0 x)), λ x. a.1 (c.1 (b.0 x)))
