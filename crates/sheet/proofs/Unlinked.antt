-- Numbers of positions in an array of zeros, and what a turn of the loop over the unlinked numbers reads in them.
-- Assumes nothing.
use mathlib.Core.Path.{◌≡◌, sym, ap, ◌∙◌}
use mathlib.Core.List.{List, map}
use Prim.Native.Nat.{ℕ, ◌+◌, ◌≤◌, ◌<◌}
use native.Mathlib.Omega.{arith}
use lib.Dec.{eqb}
use lib.ListN.{length, take, get_or, replicate, length-replicate, length-append, get_or-append}
use lib.Seq.{take_at}
use Rattle.meaning.specs.Limits.{max_trees}
use Rattle.meaning.specs.Lists.{count, positions}
use Rattle.meaning.specs.Tree.{Tree as Topology}
use Rattle.meaning.specs.Kind.{Trees}
use Rattle.meaning.specs.Listing.{Pair, copies, unlinked}
use Rattle.meaning.proofs.Sums.{map-length, map_at}
use Rattle.lent.specs.Runs.{Wrote}
use Rattle.lent.specs.Tallies.{TallyRoom, Tallied}
use Rattle.lent.proofs.Runs.{sets-at}
use Rattle.lent.proofs.Tallies.{zeros-room, zeros-tallied}
use Rattle.meaning.specs.Copies.{first_of, firsts_of}
use Rattle.meaning.proofs.Copies.{first-le, copies-firsts}
use Rattle.meaning.proofs.Unlinked.{unlinked-neighbours-copies}
use Rattle.held.specs.Kept.{KeepsAll}
use Rattle.held.specs.declared.Table.{Table}
use Rattle.held.proofs.Kept.{keeps-good}
use Rattle.sheet.specs.Lines.{TreesListed}
use Rattle.sheet.proofs.Listed.{counted}

-- an array of zeros
abbrev zeros : List ℕ
zeros = replicate max_trees 0

zeros-long : length zeros ≡ max_trees
zeros-long = length-replicate {A = ℕ} max_trees 0

-- what f makes of the first k positions was written into it
module _ (f : ℕ → ℕ) {k : ℕ} {xs : List ℕ} (few : k ≤ max_trees) (w : Wrote (map f (positions k)) zeros xs 0 k) where
  fits : length (map f (positions k)) ≤ length zeros
  fits = omega (arith, map-length f k, zeros-long)

  pub written_at : (i : ℕ) → i < k → get_or xs i 0 ≡ f i
  written_at i h =
      ap (λ (l : List ℕ). get_or l i 0) w.cells ∙ sets-at 0 zeros (map f (positions k)) fits i (omega (arith, map-length f k)) ∙ map_at f k i h

-- the firsts of the table's trees are counted
module _ {table : Table} {numbers firsts : List ℕ} {ts : Trees} {ps : List Pair} (L : TreesListed table numbers firsts ts ps) where
  abbrev us : List Topology
  us = ts.trees

  abbrev kept : KeepsAll table us
  kept = L.keeps.all

  firsts-many : length (firsts_of us) ≡ length us
  firsts-many = map-length (first_of us) (length us)

  pub firsts-long : length us ≤ length firsts
  firsts-long = omega (arith, ap length L.noted.1, length-append (firsts_of us) L.noted.0, firsts-many)

  pub first-at : (i : ℕ) → i < length us → get_or firsts i 0 ≡ first_of us i
  first-at i h =
      ap (λ (xs : List ℕ). get_or xs i 0) L.noted.1 ∙ get_or-append (firsts_of us) L.noted.0 0 i (omega (arith, firsts-many)) ∙ map_at (first_of us) (length us) i h

  pub first-few : (i : ℕ) → i < length us → get_or firsts i 0 < max_trees
  first-few i h = omega (arith, first-at i h, first-le us i h, kept.few)

  pub tally-room : TallyRoom zeros firsts table.len
  tally-room = zeros-room max_trees (omega (arith, firsts-long, kept.count)) (omega (arith, kept.count, kept.few)) (λ i h. first-few i (omega (arith, kept.count)))

  module _ {tallies : List ℕ} (t : Tallied (take table.len firsts) zeros tallies) (i : ℕ) (h : i < length us) where
    taken : take table.len firsts ≡ firsts_of us
    taken = ap (take table.len) L.noted.1 ∙ take_at (firsts_of us) L.noted.0 table.len (firsts-many ∙ sym kept.count)

    pub copies_at : get_or tallies (get_or firsts i 0) 0 ≡ copies us i
    copies_at =
        ap (λ (x : ℕ). get_or tallies x 0) (first-at i h) ∙ zeros-tallied max_trees t (first_of us i)
        ∙ omega (arith, ap (count (λ y. eqb y (first_of us i))) taken, copies-firsts us i h)

    -- what is left of all trees
    pub rest_at : unlinked us ps i + get_or numbers i 0 + get_or tallies (get_or firsts i 0) 0 ≡ table.len
    rest_at = omega (arith, counted L i (omega (arith, kept.count)), copies_at, unlinked-neighbours-copies ts.kind ts.trees (keeps-good kept) L.listing i h, kept.count)
