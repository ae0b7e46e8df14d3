-- Pairs as numbers, read one by one.
-- Assumes nothing.
use mathlib.Core.Path.{◌≡◌, refl, ap, ap₂, ◌∙◌}
use mathlib.Core.List.{List, [], ◌∷◌, map}
use Prim.Native.Nat.{ℕ, ◌*◌, ◌/◌, ◌≤◌, ◌<◌}
use native.Mathlib.Omega.{arith}
use lib.ListN.{length, get_or, take, length-append}
use lib.Seq.{take_at}
use Rattle.std.specs.Simd.{first_chunks}
use Rattle.std.proofs.lemmas.List.{get_or-map, length-map}
use Rattle.meaning.specs.Listing.{Pair, flat}
use Rattle.meaning.specs.Limits.{max_trees}
use Rattle.meaning.specs.Answer.{GraphMemory}
use Rattle.meaning.proofs.Counts.{flat-length, flat-few}
use Rattle.lent.proofs.Runs.{starts_with}
use Rattle.graph.specs.Graph.{ListRoom, Graph}
use Rattle.graph.specs.Listed.{PairsListed}

module _ {numbers : List ℕ} {m : ℕ} {ps : List Pair} (L : PairsListed numbers m ps) where
  pub pairs-long : 2 * m ≤ length numbers
  pairs-long = omega (arith, ap length L.listed.1, length-append (flat ps) L.listed.0, flat-length ps, L.many)

-- ---- pairs, read as chunks of two numbers
abbrev pub numbers_of : Pair → List ℕ
numbers_of p = p.0 ∷ p.1 ∷ []

flat-chunks : (ps : List Pair) → first_chunks 2 (length ps) (flat ps) ≡ map numbers_of ps
unfolding flat
flat-chunks [] = refl
flat-chunks (p ∷ ps) = ap (λ (l : List (List ℕ)). numbers_of p ∷ l) (flat-chunks ps)

module _ {pairs : List ℕ} {chunks : List (List ℕ)} (ps : List Pair) (e : pairs ≡ flat ps) (f : chunks ≡ first_chunks 2 (length pairs / 2) pairs) where
  chunks-are : chunks ≡ map numbers_of ps
  chunks-are =
      let half : length pairs / 2 ≡ length ps = omega (arith, ap length e, flat-length ps) in
      f ∙ ap₂ (first_chunks 2) half e ∙ flat-chunks ps

  pub chunks-many : length chunks ≡ length ps
  chunks-many = ap length chunks-are ∙ length-map ps numbers_of

  pub chunk-at : (k : ℕ) → k < length chunks → get_or chunks k [] ≡ numbers_of (get_or ps k (0, 0))
  chunk-at k h = ap (λ (l : List (List ℕ)). get_or l k []) chunks-are ∙ get_or-map numbers_of ps k (0, 0) [] (omega (arith, chunks-many))

-- of the numbers that begin with them
pub pairs-taken : {numbers : List ℕ} {m : ℕ} {ps : List Pair} → PairsListed numbers m ps → take (2 * m) numbers ≡ flat ps
pairs-taken {m = m} {ps = ps} L = ap (take (2 * m)) L.listed.1 ∙ take_at (flat ps) L.listed.0 (2 * m) (omega (arith, flat-length ps, L.many))

-- the pairs of a graph that was written
pub graph-pairs : {k m : ℕ} {L : ℕ → ℕ → Type 0} {memory memory' : GraphMemory} → ListRoom memory → k ≤ max_trees → (g : Graph k L memory memory' m) → PairsListed memory'.pairs m g.linked
graph-pairs room few g = record { many = g.many; listed = starts_with g.in_pairs (omega (arith, flat-few g.listing few, room.pairs_room)) }
