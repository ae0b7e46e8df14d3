-- The merged graph of one sample: as many pairs, and the counts go with the topologies.
-- Assumes nothing.
use mathlib.Core.Path.{◌≡◌, refl, sym, ap, ap₂, subst, ◌∙◌}
use mathlib.Core.Logic.{◌↔◌, ◌≢◌}
use mathlib.Core.Bool.{Bool}
use mathlib.Core.List.Memᴰ
use mathlib.Core.List.{List, [], ◌∷◌, map, Memᴰ}
use Prim.Native.Nat.{ℕ, ◌+◌, ◌<◌}
use native.Mathlib.Omega.{arith}
use lib.Dec.{T, eqb}
use lib.ListN.{length}
use Rattle.meaning.specs.Lists.{bit, NoDup, positions, upto}
use Rattle.meaning.specs.Sorted.{put, keep}
use Rattle.meaning.specs.Tree.{Tree, AllGood}
use Rattle.meaning.specs.Kind.{Kind}
use Rattle.meaning.specs.Listing.{Pair, Listing, At, copy_of, neighbours, paired}
use Rattle.meaning.specs.Islands.{Joined}
use Rattle.meaning.specs.Copies.{first_of, merged, LinkedBy}
use Rattle.meaning.proofs.Logic.{cases, T-eq}
use Rattle.meaning.proofs.EitherKind.{AllStand}
use Rattle.meaning.proofs.Positions.{positions-mem, mem-positions}
use Rattle.meaning.proofs.Keep.{keep-iff, keep-nodup}
use Rattle.meaning.proofs.Sums.{map-sum, total, total-le, bit-none, bit-iff}
use Rattle.meaning.proofs.Counts.{is_linked}
use Rattle.meaning.proofs.Copies.{first-inside, first-own, copy-count}
use Rattle.renaming.specs.Reordering.{came}
use Rattle.renaming.specs.Outcomes.{SameTopologies}
use Rattle.renaming.proofs.Orders.{came-inside, went, positions-once}
use Rattle.renaming.proofs.MovedPairs.{Mutual, Carried, joined-iff, linked-iff, neighbours-sum, twice}
use Rattle.renaming.proofs.Sample.{OfTopologies}
use Rattle.renaming.proofs.MergedSample.{linked-mutual, firsts-moved, topologies-joined}

-- ---- sums over lists of numbers
-- members that fail a test and add nothing can be left out
keep-total : (test : ℕ → Bool) (g : ℕ → ℕ) (xs : List ℕ) → ((x : ℕ) → Memᴰ x xs → ¬ T (test x) → g x ≡ 0) → total g (keep test xs) ≡ total g xs
unfolding keep put
keep-total test g [] none = refl
keep-total test g (x ∷ xs) none =
    let rest = keep-total test g xs (λ y m. none y (Memᴰ.tail m)) in
    cases (λ b. (¬ T b → g x ≡ 0) → total g (put b x (keep test xs)) ≡ g x + total g xs) (test x) (λ _ _. omega (arith, rest)) (λ _ f. omega (arith, rest, f (λ t. t))) (none x (Memᴰ.head refl))

total-same : (g h : ℕ → ℕ) (xs : List ℕ) → ((x : ℕ) → Memᴰ x xs → g x ≡ h x) → total g xs ≡ total h xs
total-same g h [] e = refl
total-same g h (x ∷ xs) e = ap₂ ◌+◌ (e x (Memᴰ.head refl)) (total-same g h xs (λ y m. e y (Memᴰ.tail m)))

total-map : (g f : ℕ → ℕ) (xs : List ℕ) → total g (map f xs) ≡ total (λ x. g (f x)) xs
total-map g f [] = refl
total-map g f (x ∷ xs) = ap (λ (n : ℕ). g (f x) + n) (total-map g f xs)

nodup-map : (f : ℕ → ℕ) (xs : List ℕ) → NoDup xs → ((x y : ℕ) → Memᴰ x xs → Memᴰ y xs → f x ≡ f y → x ≡ y) → NoDup (map f xs)
nodup-map f [] d once = tt
nodup-map f (x ∷ xs) d once = (
  λ m.
      let (y, n, e) = Memᴰ.of_map f xs m in
      d.0 (Memᴰ.cast (once x y (Memᴰ.head refl) (Memᴰ.tail n) (sym e)) n),
  nodup-map f xs d.1 (λ y z m n. once y z (Memᴰ.tail m) (Memᴰ.tail n)),
)

-- ---- first positions
is_first : List Tree → ℕ → Bool
is_first ts i = eqb (first_of ts i) i

first_positions : List Tree → List ℕ
first_positions ts = keep (is_first ts) (positions (length ts))

module _ (ts : List Tree) where
  first_member : (x : ℕ) → Memᴰ x (first_positions ts) ↔ ((x < length ts) × (first_of ts x ≡ x))
  unfolding is_first first_positions
  first_member x =
      let k = keep-iff (is_first ts) (positions (length ts)) x in
      let e = T-eq (first_of ts x) x in
      (λ m. let (n, t) = k.0 m in (positions-mem (length ts) n, e.0 t), λ h. k.1 (mem-positions (length ts) x h.0, e.1 h.1))

  firsts-once : NoDup (first_positions ts)
  unfolding first_positions
  firsts-once = keep-nodup (is_first ts) (positions (length ts)) (positions-once (length ts))

  -- a sum to which only first positions add
  firsts-sum : (g : ℕ → ℕ) → ((x : ℕ) → x < length ts → first_of ts x ≢ x → g x ≡ 0) → upto g (length ts) ≡ total g (first_positions ts)
  unfolding is_first first_positions
  firsts-sum g none =
      sym (map-sum g (length ts))
      ∙ sym (keep-total (is_first ts) g (positions (length ts)) (λ x m n. none x (positions-mem (length ts) m) (λ e. n ((T-eq (first_of ts x) x).1 e))))

-- ---- one sample in two tables
module _ {k : Kind} {R : Tree → Tree → Type 0} (O : OfTopologies k R) (ts us : List Tree) (many : length us ≡ length ts) (G : AllGood ts) (G' : AllGood us) (W : AllStand k ts) (W' : AllStand k us)
    {order : List ℕ} (C : Carried (length ts) order (At R ts) (At R us)) (same : (i j : ℕ) → i < length ts → j < length ts → T (copy_of us i j) ↔ T (copy_of ts (came order i) (came order j)))
    {ps qs : List Pair} (P : Listing (length ts) (LinkedBy merged R ts) ps) (Q : Listing (length us) (LinkedBy merged R us) qs) where
  firsts : (i j : ℕ) → i < length ts → j < length ts → (first_of us i ≡ first_of us j) ↔ (first_of ts (came order i) ≡ first_of ts (came order j))
  firsts = firsts-moved O ts us many G G' W W' C same P Q

  joined : (i j : ℕ) → i < length ts → j < length ts → Joined qs (first_of us i) (first_of us j) ↔ Joined ps (first_of ts (came order i)) (first_of ts (came order j))
  joined = topologies-joined O ts us many G G' W W' C same P Q

  in-us : (i : ℕ) → i < length ts → i < length us
  in-us i h = omega (arith, many)

  from : (i : ℕ) → i < length ts → came order i < length ts
  from i h = came-inside C.placed i h

  -- where the topology of a tree of us is first in ts
  abbrev to : ℕ → ℕ
  to j = first_of ts (came order j)

  -- a first position of us, as a position of ts
  first-us : (x : ℕ) → Memᴰ x (first_positions us) → (x < length ts) × (first_of us x ≡ x)
  first-us x m = let (h, e) = (first_member us x).0 m in (let l : x < length ts = omega (arith, many) in l, e)

  -- first positions go to first positions, one to one, and every one is met
  to_inside : (x : ℕ) → Memᴰ x (map to (first_positions us)) → Memᴰ x (first_positions ts)
  to_inside x m =
      let (j, n, e) = Memᴰ.of_map to (first_positions us) m in
      let (h, _) = first-us j n in
      let c = from j h in
      (first_member ts x).1 (subst (λ (y : ℕ). (y < length ts) × (first_of ts y ≡ y)) e (first-inside ts (came order j) c, first-own ts (came order j) c))

  to-once : NoDup (map to (first_positions us))
  to-once =
      nodup-map to (first_positions us) (firsts-once us) (λ x y m n e.
      let (h, u) = first-us x m in
      let (l, v) = first-us y n in
      sym u ∙ (firsts x y h l).1 e ∙ v)

  to-all : (x : ℕ) → Memᴰ x (first_positions ts) → Memᴰ x (map to (first_positions us))
  to-all x m =
      let (h, e) = (first_member ts x).0 m in
      let (i, l, c) = went C.placed x h in
      let j = first_of us i in
      let j-in : j < length us = first-inside us i (in-us i l) in
      let j-ts : j < length ts = omega (arith, many) in
      let own : first_of us j ≡ j = first-own us i (in-us i l) in
      let back : to j ≡ x = (firsts j i j-ts l).0 own ∙ ap (first_of ts) c ∙ e in
      Memᴰ.cast (sym back) (Memᴰ.map to ((first_member us j).1 (j-in, own)))

  -- so sums over first positions stay
  firsts-total : (g : ℕ → ℕ) → total (λ j. g (to j)) (first_positions us) ≡ total g (first_positions ts)
  firsts-total g =
      omega (
        arith,
        total-map g to (first_positions us),
        total-le g (map to (first_positions us)) (first_positions ts) to-once to_inside,
        total-le g (first_positions ts) (map to (first_positions us)) (firsts-once ts) to-all,
      )

  mutual-ts : Mutual (length ts) (LinkedBy merged R ts)
  mutual-ts = linked-mutual O ts G W P

  mutual-us : Mutual (length us) (LinkedBy merged R us)
  mutual-us = linked-mutual O us G' W' Q

  -- the counts go with the topologies
  pub counts-moved : (i : ℕ) → i < length ts → neighbours qs (first_of us i) ≡ neighbours ps (to i)
  counts-moved i h =
      let a = first_of us i in
      let b = to i in
      let a_in : a < length us = first-inside us i (in-us i h) in
      let b-in : b < length ts = first-inside ts (came order i) (from i h) in
      let after : ℕ → ℕ = λ j. bit (is_linked (paired qs) a j) in
      let before : ℕ → ℕ = λ j. bit (is_linked (paired ps) b j) in
      neighbours-sum mutual-us Q a a_in
      ∙ firsts-sum us after (λ x l n. bit-none (is_linked (paired qs) a x) (λ t. n ((linked-iff mutual-us Q a x a_in l).0 t).1))
      ∙ total-same after (λ j. before (to j)) (first_positions us) (λ j m.
      let (l, own) = first-us j m in
      let c = to j in
      let c-in : c < length ts = first-inside ts (came order j) (from j l) in
      let u = linked-iff mutual-us Q a j a_in (in-us j l) in
      let v = joined-iff mutual-us Q a j a_in (in-us j l) in
      let w = subst (λ (x : ℕ). Joined qs a x ↔ Joined ps b c) own (joined i j h l) in
      let x = joined-iff mutual-ts P b c b-in c-in in
      let y = linked-iff mutual-ts P b c b-in c-in in
      bit-iff (is_linked (paired qs) a j) (is_linked (paired ps) b c) (λ t. y.1 (x.0 (w.0 (v.1 (u.0 t)))), λ t. u.1 (v.0 (w.1 (x.1 (y.0 t))))))
      ∙ firsts-total before
      ∙ sym (firsts-sum ts before (λ x l n. bit-none (is_linked (paired ps) b x) (λ t. n ((linked-iff mutual-ts P b x b-in l).0 t).1)))
      ∙ sym (neighbours-sum mutual-ts P b b-in)

  -- and there are as many pairs
  pub pairs-as-many : length qs ≡ length ps
  pairs-as-many =
      omega (
        arith,
        twice mutual-us Q,
        twice mutual-ts P,
        firsts-sum us (neighbours qs) (λ x l n. copy-count R us Q x n),
        firsts-sum ts (neighbours ps) (λ x l n. copy-count R ts P x n),
        total-same (neighbours qs) (λ j. neighbours ps (to j)) (first_positions us) (λ j m. let (l, own) = first-us j m in ap (neighbours qs) (sym own) ∙ counts-moved j l),
        firsts-total (neighbours ps),
      )

  pub topologies-moved : SameTopologies order ts us ps qs
  topologies-moved = record { as_many = pairs-as-many; copies = firsts; pairs = joined; counts = counts-moved }
