-- What the loop over the islands' numbers reads and writes in a turn, and the lines of a table's islands.
-- Assumes nothing.
use mathlib.Core.Path.{◌≡◌, refl, sym, ap, ◌∙◌}
use mathlib.Core.Bool.{cond}
use mathlib.Core.List.{List, []}
use Prim.Native.Nat.{ℕ, ◌+◌, ◌≤◌, ◌<◌}
use native.Mathlib.Omega.{arith}
use borrow.Author.Tests.{eq-eqb, ne_eqb}
use lib.Dec.{eqb}
use lib.ListN.{length, take, get_or, replicate, length-replicate}
use lib.Seq.{get_or-take, length-take-le}
use Rattle.meaning.specs.Limits.{max_trees, island_sheet_bytes}
use Rattle.meaning.specs.Islands.{size}
use Rattle.meaning.specs.IslandSheet.{island_line, line_at, island_lines, IslandSheetOf, shows_islands}
use Rattle.meaning.specs.Answer.{GraphMemory}
use Rattle.meaning.specs.Kind.{Trees}
use Rattle.meaning.specs.EitherKind.{ApartAs}
use Rattle.meaning.proofs.Islands.{number-below}
use Rattle.meaning.proofs.MergedIslands.{merged-together}
use Rattle.lent.specs.Runs.{Wrote}
use Rattle.lent.specs.Tallies.{TallyRoom, Tallied}
use Rattle.lent.proofs.Runs.{sets-at, written-first, wrote-length}
use Rattle.lent.proofs.Tallies.{count-le, zeros-room, zeros-tallied}
use Rattle.held.specs.Kept.{KeepsTrees}
use Rattle.held.specs.declared.Table.{Table}
use Rattle.numbering.specs.Islands.{IslandsWritten}
use Rattle.sheet.specs.Islands.{IslandLinesFit}
use Rattle.sheet.specs.Printed.{ShownAll}
use Rattle.sheet.proofs.Rows.{rows, turn-room, turn-wrote, turns-wrote}
use Rattle.sheet.proofs.Turns.{lines_rows}
use Rattle.sheet.proofs.Sizes.{islands-short}

-- ---- the loop
pub sizes-room : {numbers : List ℕ} {n len : ℕ} → IslandLinesFit numbers n len → TallyRoom (replicate max_trees 0) numbers n
sizes-room f = zeros-room max_trees f.lent (omega (arith, f.few)) f.below

-- the lines at the first i positions are written
abbrev pub LinesSoFar : List ℕ → ℕ → List ℕ → List ℕ → ℕ → ℕ → Type 0
LinesSoFar numbers n out o₁ next i = Wrote (rows (line_at (take n numbers)) 0 (take i (take n numbers))) out o₁ 0 next

module _ {numbers : List ℕ} {n len : ℕ} (f : IslandLinesFit numbers n len) where
  all-taken : length (take n numbers) ≡ n
  all-taken = length-take-le n numbers f.lent

  module _ {sizes : List ℕ} (t : Tallied (take n numbers) (replicate max_trees 0) sizes) where
    pub size_few : (i : ℕ) → get_or sizes i 0 ≤ max_trees
    size_few i = omega (arith, zeros-tallied max_trees t i, count-le (λ y. eqb y i) (take n numbers), all-taken, f.few)

    -- a turn at a position that has its island's number
    module _ {i : ℕ} (h : i < n) (own : get_or numbers i 0 ≡ i) where
      own_line : line_at (take n numbers) i (get_or (take n numbers) i 0) ≡ island_line i (get_or sizes i 0)
      own_line =
          ap (λ b. cond b (island_line i (size (take n numbers) i)) []) (eq-eqb (get_or (take n numbers) i 0) i (get_or-take n numbers i 0 h ∙ own))
          ∙ ap (island_line i) (sym (zeros-tallied max_trees t i))

      pub line-room : {out o₁ : List ℕ} {next : ℕ} → length out ≡ len → LinesSoFar numbers n out o₁ next i → next + length (island_line i (get_or sizes i 0)) ≤ length o₁
      line-room {out} e w =
          let ms = take n numbers in
          let room : 0 + length (rows (line_at ms) 0 ms) ≤ length out = omega (arith, ap length (lines_rows ms 0 ms), islands-short ms (omega (arith, all-taken, f.few)), f.room, e) in
          rw own_line at (turn-room (line_at ms) 0 ms i (omega (arith, all-taken)) w room)

      pub line_wrote : {out o₁ o₂ : List ℕ} {next r : ℕ} → LinesSoFar numbers n out o₁ next i → Wrote (island_line i (get_or sizes i 0)) o₁ o₂ next r → LinesSoFar numbers n out o₂ r (i + 1)
      line_wrote w one = turn-wrote (line_at (take n numbers)) 0 (take n numbers) i (omega (arith, all-taken)) w (rw own_line one)

  -- a turn at another
  pub no_line : {i : ℕ} → i < n → (get_or numbers i 0 ≡ i → ⊥) → {out o₁ : List ℕ} {next : ℕ} → LinesSoFar numbers n out o₁ next i → LinesSoFar numbers n out o₁ next (i + 1)
  no_line {i} h other {o₁} {next} w =
      let ms = take n numbers in
      let none : line_at ms i (get_or ms i 0) ≡ [] =
      ap (λ b. cond b (island_line i (size ms i)) []) (ne_eqb (get_or ms i 0) i (λ e. other (sym (get_or-take n numbers i 0 h) ∙ e))) in
      let nothing : Wrote [] o₁ o₁ next next = record { behind = omega arith; cells = refl } in
      turn-wrote (line_at ms) 0 ms i (omega (arith, all-taken)) w (rw none nothing)

  pub lines-done : {i : ℕ} {out o₁ : List ℕ} {next : ℕ} → i ≤ n → n ≤ i → LinesSoFar numbers n out o₁ next i → Wrote (island_lines (take n numbers)) out o₁ 0 next
  lines-done {i} h l w =
      let all : i ≡ length (take n numbers) = omega (arith, all-taken) in
      rw (lines_rows (take n numbers) 0 (take n numbers)) (turns-wrote (line_at (take n numbers)) (take n numbers) all w)

-- ---- the islands of a table's trees, whose numbers were written into an array of zeros
module _ {table : Table} {memory memory' : GraphMemory} {firsts firsts' numbers : List ℕ} {m : ℕ} (g : IslandsWritten table memory memory' firsts firsts' (replicate max_trees 0) numbers m) where
  module _ (ts : Trees) (h : KeepsTrees table ts) where
    abbrev ms : List ℕ
    ms = (g ts h).numbers

    many : length ms ≡ table.len
    many = (g ts h).found.many ∙ sym h.all.count

    fits : length ms ≤ length (replicate {A = ℕ} max_trees 0)
    fits = omega (arith, many, h.all.count, h.all.few, length-replicate {A = ℕ} max_trees 0)

    number_is : (i : ℕ) → i < table.len → get_or numbers i 0 ≡ get_or ms i 0
    number_is i l = ap (λ (xs : List ℕ). get_or xs i 0) (g ts h).in-islands.cells ∙ sets-at 0 (replicate max_trees 0) ms fits i (omega (arith, many))

    number-few : (i : ℕ) → i < table.len → get_or ms i 0 < max_trees
    number-few i l =
        let together = merged-together ts.trees (ApartAs ts.kind) (g ts h).merged.graph.listing (g ts h).found in
        omega (arith, number-below together i (omega (arith, h.all.count)), h.all.count, h.all.few)

    numbered : take table.len numbers ≡ ms
    numbered = ap (λ (k : ℕ). take k numbers) h.all.count ∙ written-first (g ts h).in-islands (omega (arith, h.all.few, length-replicate {A = ℕ} max_trees 0))

    pub numbered-fits : {len : ℕ} → island_sheet_bytes ≤ len → IslandLinesFit numbers table.len len
    numbered-fits room = record {
      few = omega (arith, h.all.count, h.all.few);
      lent = omega (arith, wrote-length (g ts h).in-islands, many, fits);
      below = λ i l. omega (arith, number_is i l, number-few i l);
      room = room;
    }

  pub islands-shown : {out out' : List ℕ} {r : ℕ} → Wrote (island_lines (take table.len numbers)) out out' 0 r → ShownAll IslandSheetOf table out out' r
  islands-shown w ts h =
      let G = g ts h in
      record { bytes = island_lines G.numbers; shows = shows_islands G.merged.graph.linked G.numbers G.merged.graph.listing G.found; wrote = rw (numbered ts h) at w }
