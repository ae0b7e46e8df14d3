-- Islands of the merged graph: what chains of pairs between first positions, and steps between copies, join.
-- Assumes nothing.
use mathlib.Core.Path.{◌≡◌, refl, sym, subst, subst₂, ◌∙◌}
use mathlib.Core.Logic.{◌↔◌, ◌⊎◌, inl, inr}
use mathlib.Core.List.{List, Memᴰ}
use Prim.Native.Nat.{ℕ, ◌<◌}
use native.Mathlib.Omega.{arith}
use lib.ListN.{length, get_or}
use lib.Seq.{ext_get_or}
use Rattle.meaning.specs.Tree.{Tree}
use Rattle.meaning.specs.Listing.{Pair, Listing}
use Rattle.meaning.specs.Islands.{Joined, Chain, here, step, Island, Islands, unite_all}
use Rattle.meaning.specs.Copies.{first_of, firsts_of, merged, LinkedBy, MergedIslands}
use Rattle.meaning.proofs.Sums.{map-length, map_at}
use Rattle.meaning.proofs.Islands.{chain-then, chain-one, chain-map, island-unique, island-iff, listing-within, unite-all}
use Rattle.meaning.proofs.Copies.{first-le, first-inside, first-own}

-- the numbers are determined
pub merged-unique : {ts : List Tree} {ps : List Pair} {ms ns : List ℕ} → MergedIslands ts ps ms → MergedIslands ts ps ns → ms ≡ ns
merged-unique {ms} {ns} a b = ext_get_or 0 ms ns (a.many ∙ sym b.many) (λ i h. island-unique (a.number i (omega (arith, a.many))) (b.number i (omega (arith, a.many))))

-- two positions have the same number exactly when a chain of pairs joins their firsts
pub merged-iff : {ts : List Tree} {ps : List Pair} {ms : List ℕ} → MergedIslands ts ps ms → (i j : ℕ) → i < length ts → j < length ts
    → (get_or ms i 0 ≡ get_or ms j 0) ↔ Chain (Joined ps) (first_of ts i) (first_of ts j)
merged-iff {ps} I i j h l = island-iff ps (I.number i h) (I.number j l)

module _ (ts : List Tree) where
  -- i and j are positions of one topology
  abbrev Copied : ℕ → ℕ → Type 0
  Copied i j = (i < length ts) × (j < length ts) × (first_of ts i ≡ first_of ts j)

  -- i and j are copies, or a listed pair in either direction
  abbrev pub Together : List Pair → ℕ → ℕ → Type 0
  Together ps i j = Copied i j ⊎ Joined ps i j

  copied-chain : {i j : ℕ} → i < length ts → Chain Copied i j → (j < length ts) × (first_of ts i ≡ first_of ts j)
  copied-chain h here = (h, refl)
  copied-chain h (step s c) = let (l, e) = copied-chain s.1 c in (l, s.2 ∙ e)

  to-first : (i : ℕ) → i < length ts → Copied i (first_of ts i)
  to-first i h = (h, first-inside ts i h, sym (first-own ts i h))

  first-at : (i : ℕ) → i < length ts → get_or (firsts_of ts) i 0 ≡ first_of ts i
  first-at i h = map_at (first_of ts) (length ts) i h

  -- before any pair each topology is an island
  alone : Islands (length ts) Copied (firsts_of ts)
  alone = record {
    many = map-length (first_of ts) (length ts);
    number = λ i h. record {
      joined = subst (Chain Copied i) (sym (first-at i h)) (chain-one (to-first i h));
      smallest = λ j c. let (l, e) = copied-chain h c in omega (arith, first-at i h, e, first-le ts j l);
    };
  }

  module _ (R : Tree → Tree → Type 0) {ps : List Pair} (M : Listing (length ts) (LinkedBy merged R ts) ps) where
    -- a listed pair is of first positions
    pair-own : (x y : ℕ) → Memᴰ (x, y) ps → (first_of ts x ≡ x) × (first_of ts y ≡ y)
    pair-own x y m = let (lt, l, (e, f, r)) = (M.listed x y).0 m in (e, f)

    joined-own : (x y : ℕ) → Joined ps x y → (first_of ts x ≡ x) × (first_of ts y ≡ y)
    joined-own x y (inl m) = pair-own x y m
    joined-own x y (inr m) = let (e, f) = pair-own y x m in (f, e)

    -- uniting the islands of each pair
    united : Islands (length ts) (Together ps) (unite_all (firsts_of ts) ps)
    united = unite-all Copied ps (λ i j s. (s.1, s.0, sym s.2)) (λ i j s. s.1) (listing-within M) alone

    -- a chain that steps between copies is a chain of the firsts
    firsts-chain : {i j : ℕ} → Chain (Together ps) i j → Chain (Joined ps) (first_of ts i) (first_of ts j)
    firsts-chain here = here
    firsts-chain {j} (step (inl s) c) = subst (λ (x : ℕ). Chain (Joined ps) x (first_of ts j)) (sym s.2) (firsts-chain c)
    firsts-chain (step {i} {j = k} (inr s) c) =
        let (e, f) = joined-own i k s in
        step (subst₂ (Joined ps) (sym e) (sym f) s) (firsts-chain c)

    -- and the other way round
    from_first : (i : ℕ) → i < length ts → {j : ℕ} → Chain (Joined ps) (first_of ts i) j → Chain (Together ps) i j
    from_first i h c = step (inl (to-first i h)) (chain-map (λ x y s. inr s) c)

    number-first : {i m : ℕ} → i < length ts → Island (Together ps) i m → Island (Joined ps) (first_of ts i) m
    number-first {i} {m} h n =
        let m-in : m < length ts = omega (arith, n.smallest i here) in
        let own : first_of ts m ≡ m = omega (arith, first-le ts m m-in, n.smallest (first_of ts m) (chain-then n.joined (chain-one (inl (to-first m m-in))))) in
        record {
          joined = subst (Chain (Joined ps) (first_of ts i)) own (firsts-chain n.joined);
          smallest = λ j c. n.smallest j (from_first i h c);
        }

    -- so it gives the islands of the merged graph
    pub merged-found : MergedIslands ts ps (unite_all (firsts_of ts) ps)
    merged-found = record { many = united.many; number = λ i h. number-first h (united.number i h) }

    -- these are the islands of pairs and copies together
    pub merged-together : {ms : List ℕ} → MergedIslands ts ps ms → Islands (length ts) (Together ps) ms
    merged-together I = subst (Islands (length ts) (Together ps)) (merged-unique merged-found I) united
