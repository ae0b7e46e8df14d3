-- A table whose pairs are listed: what stands at a position of the trees and of the neighbour counts.
-- Assumes nothing.
use mathlib.Core.Path.{◌≡◌, ap, ◌∙◌}
use mathlib.Core.List.{List}
use Prim.Native.Nat.{ℕ, ◌≤◌, ◌<◌}
use native.Mathlib.Omega.{arith}
use lib.ListN.{length, get_or, length-append, get_or-append}
use Rattle.meaning.specs.Kind.{Trees}
use Rattle.meaning.specs.Listing.{Pair, counts, neighbours}
use Rattle.meaning.proofs.Counts.{counts-length, counts-at}
use Rattle.held.specs.declared.Table.{Table}
use Rattle.sheet.specs.Lines.{TreesListed}

module _ {table : Table} {numbers firsts : List ℕ} {ts : Trees} {ps : List Pair} (L : TreesListed table numbers firsts ts ps) where
  abbrev k : ℕ
  k = length ts.trees

  pub numbers-long : k ≤ length numbers
  numbers-long = omega (arith, ap length L.counted.1, length-append (counts k ps) L.counted.0, counts-length k ps)

  module _ (i : ℕ) (h : i < table.len) where
    pub inside : i < k
    inside = omega (arith, L.keeps.all.count)

    pub counted : get_or numbers i 0 ≡ neighbours ps i
    counted =
        ap (λ (l : List ℕ). get_or l i 0) L.counted.1 ∙ get_or-append (counts k ps) L.counted.0 0 i (omega (arith, inside, counts-length k ps))
        ∙ counts-at k ps i inside
