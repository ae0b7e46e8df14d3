-- The turns of the loops that list and count: lists of pairs one after another, the part of a list that is done, and the room that is left.
-- Assumes nothing.
use mathlib.Core.Path.{◌≡◌, refl, sym, ap, ◌∙◌}
use mathlib.Core.Logic.{◌↔◌}
use mathlib.Core.Bool.{Bool, true, false}
use mathlib.Core.List.{List, [], ◌∷◌, ◌++◌, append_assoc, append-nil}
use Prim.Native.Nat.{ℕ, ◌+◌, ◌≤◌, ◌<◌}
use native.Mathlib.Nat.{zero-add}
use native.Mathlib.Omega.{arith}
use Rattle.std.proofs.lemmas.Bool.{false≢true}
use lib.Dec.{T}
use lib.ListN.{length, get_or, replicate, length-append}
use Rattle.meaning.specs.Listing.{Pair, Listing, flat}
use Rattle.meaning.specs.Loops.{row_of, pairs_of}
use Rattle.meaning.specs.Answer.{GraphMemory}
use Rattle.meaning.proofs.Listing.{row_step, pairs_of-lists, listing-iff}
use Rattle.meaning.proofs.Counts.{flat_append, listing-few}
use Rattle.lent.specs.Runs.{Wrote}
use Rattle.lent.proofs.Runs.{wrote-length, wrote-more}
use Rattle.sharing.specs.Links.{LinkedIn, is_linked}
use Rattle.graph.specs.Graph.{tally, PairRoom, PairAdded, Listed, PairsRoom, ListRoom, Graph}
use Rattle.graph.proofs.Stores.{wrote-pair, tally-length, tally-append, more-le, tally-le, cleared_at, counts-written}

-- nothing is listed
pub none-listed : {memory : GraphMemory} {m : ℕ} → Listed [] memory memory m m
unfolding flat
none-listed = record { next = omega arith; listed = record { behind = omega arith; cells = refl }; counted = refl }

-- one pair is
pub pair-listed : {memory memory' : GraphMemory} {m i j r : ℕ} → PairAdded memory memory' m i j r → Listed ((i, j) ∷ []) memory memory' m r
pair-listed {memory} {m} {i} {j} added = record { next = added.next; listed = rw (added.next, added.listed) (wrote-pair memory.pairs m i j); counted = added.counted }

-- one list of pairs after another
both-listed : {ps qs : List Pair} {memory memory' memory'' : GraphMemory} {m m' m'' : ℕ} → Listed ps memory memory' m m' → Listed qs memory' memory'' m' m''
    → Listed (ps ++ qs) memory memory'' m m''
both-listed {ps} {qs} {memory} a b = record {
  next = omega (arith, length-append ps qs);
  listed = rw flat_append (wrote-more a.listed b.listed);
  counted = b.counted ∙ ap (λ (ns : List ℕ). tally ns qs) a.counted ∙ sym (tally-append memory.counts ps qs);
}

-- of the pairs `all` those before `rest` are listed
pub record Part (all rest : List Pair) (memory memory' : GraphMemory) (m m' : ℕ) : Type 0 where
  pub done : List Pair
  pub whole : done ++ rest ≡ all
  pub listed : Listed done memory memory' m m'

module _ {all rest : List Pair} {memory memory' : GraphMemory} {m m' : ℕ} (part : Part all rest memory memory' m m') where
  -- the next pairs are listed
  pub part-more : {ps rest' : List Pair} {memory'' : GraphMemory} {m'' : ℕ} → rest ≡ ps ++ rest' → Listed ps memory' memory'' m' m'' → Part all rest' memory memory'' m m''
  part-more {ps} {rest'} e more = record {
    done = part.done ++ ps;
    whole = append_assoc part.done ps rest' ∙ rw e at part.whole;
    listed = both-listed part.listed more;
  }

  -- all are
  pub part-ends : rest ≡ [] → Listed all memory memory' m m'
  part-ends e =
      let whole : part.done ≡ all = sym (append-nil part.done) ∙ rw e at part.whole in
      rw whole at part.listed

  -- the slices keep their lengths
  pub pairs-length : length memory'.pairs ≡ length memory.pairs
  pairs-length = wrote-length part.listed.listed

  pub numbers-length : length memory'.counts ≡ length memory.counts
  numbers-length = ap length part.listed.counted ∙ tally-length memory.counts part.done

  -- and have room for the next pairs
  pub next-room : {k : ℕ} {ps : List Pair} (behind : List Pair) → rest ≡ ps ++ behind → PairsRoom k all memory m → PairsRoom k ps memory' m'
  next-room behind e room =
      let long = simp length-append at (ap length part.whole) in
      let long' = simp length-append at (ap length e) in
      record {
        few = room.few;
        pairs_room = omega (arith, pairs-length, part.listed.next, room.pairs_room);
        counts_room = omega (arith, numbers-length, room.counts_room);
        grow = λ x lt. omega (arith, ap (λ (ns : List ℕ). get_or ns x 0) part.listed.counted, tally-le memory.counts part.done x, room.grow x lt);
      }

-- room for one pair
pub pair-room : {k m i j : ℕ} {memory : GraphMemory} → i < j → j < k → PairsRoom k ((i, j) ∷ []) memory m → PairRoom memory m i j
pair-room {i} {j} {memory} h l room = record {
  room = omega (arith, room.pairs_room);
  ordered = h;
  inside = omega (arith, room.counts_room);
  small = omega (arith, room.few);
  grows = omega (arith, room.grow i (omega arith));
  grows' = omega (arith, room.grow j l, more-le memory.counts i j);
}

-- a test that passes is true
told : (b : Bool) → T b ↔ (b ≡ true)
told true = (λ _. refl, λ _. tt)
told false = (λ t. absurd t, λ e. absurd (false≢true e))

-- ---- the linked positions among k
module _ (links : List (List Bool)) (k : ℕ) where
  -- row i from column j on: with that column, or without it
  pub row-takes : (i j : ℕ) → j < k → LinkedIn links i j → row_of i j k (is_linked links) ≡ (i, j) ∷ row_of i (j + 1) k (is_linked links)
  row-takes i j l e = rw e at (row_step k (is_linked links) i j l)

  pub row-skips : (i j : ℕ) → j < k → is_linked links i j ≡ false → row_of i j k (is_linked links) ≡ row_of i (j + 1) k (is_linked links)
  row-skips i j l n = rw n at (row_step k (is_linked links) i j l)

  -- the rows together
  abbrev all_linked : List Pair
  all_linked = pairs_of k (is_linked links)

  -- are the listing of what the flags link
  links-listed : Listing k (LinkedIn links) all_linked
  links-listed = listing-iff (λ i j _ _. told (is_linked links i j)) (pairs_of-lists k (is_linked links))

  module _ {memory : GraphMemory} {cleared : List ℕ} (few : k ≤ 160) (room : ListRoom memory) (zeros : Wrote (replicate k 0) memory.counts cleared 0 k) where
    fits : k ≤ length memory.counts
    fits = omega (arith, room.counts_room)

    -- there is room for them: they are at most 12,720
    pub all_room : PairsRoom k all_linked (record { pairs = memory.pairs; counts = cleared }) 0
    all_room =
        let most = listing-few links-listed few in
        record {
          few = few;
          pairs_room = omega (arith, room.pairs_room);
          counts_room = omega (arith, fits, wrote-length zeros);
          grow = λ x lt. omega (arith, cleared_at fits zeros x lt);
        }

    -- they are listed and counted
    pub graph-listed : {memory' : GraphMemory} {r : ℕ} → Listed all_linked (record { pairs = memory.pairs; counts = cleared }) memory' 0 r → Graph k (LinkedIn links) memory memory' r
    graph-listed l = record {
      linked = all_linked;
      listing = links-listed;
      many = omega (arith, l.next);
      in_pairs = rw (l.next, zero-add) at l.listed;
      in_counts = rw l.counted (counts-written fits zeros links-listed);
    }

-- relations that agree have the same graph
pub graph-iff : {k : ℕ} {L M : ℕ → ℕ → Type 0} {memory memory' : GraphMemory} {r : ℕ} → ((i j : ℕ) → i < j → j < k → L i j ↔ M i j)
    → Graph k L memory memory' r → Graph k M memory memory' r
graph-iff f g = record { linked = g.linked; listing = listing-iff f g.listing; many = g.many; in_pairs = g.in_pairs; in_counts = g.in_counts }
