-- The longest sheets: numbers below 1000 and 100,000 have at most three and five digits, and a canonical text at most 313 bytes. So what is printed fits into what is lent.
-- Assumes nothing.
use mathlib.Core.Path.{◌≡◌, ap}
use mathlib.Core.Bool.{Bool, true, false, cond}
use mathlib.Core.List.{List, []}
use Prim.Native.Nat.{ℕ, zero, suc, ◌*◌, ◌/◌, ◌≤◌, ◌<◌}
use native.Mathlib.Omega.{arith}
use native.Mathlib.Decide.{dec_le}
use lib.Dec.{eqb, leb, leb→le}
use lib.ListN.{length, length-append}
use Rattle.meaning.specs.Limits.{text_bytes, max_trees, first_line_bytes, tree_line_bytes, pair_line_bytes, sheet_bytes, island_line_bytes, island_sheet_bytes}
use Rattle.meaning.specs.Bytes.{bytes}
use Rattle.meaning.specs.Tree.{digits, AllGood}
use Rattle.meaning.specs.Kind.{Trees, either}
use Rattle.meaning.specs.EitherKind.{ApartAs}
use Rattle.meaning.specs.Listing.{Pair, Listing, At, neighbours, unlinked}
use Rattle.meaning.specs.Answer.{accepted, refusal, Outcome}
use Rattle.meaning.specs.Calls.{table_read}
use Rattle.meaning.specs.Sheet.{refusal_line, Printout, prints, first_line, tree_line_of, tree_lines, pair_line, pair_lines, sheet, shows_pairs, SheetOf, Sheet, SheetCall}
use Rattle.meaning.specs.IslandSheet.{island_line, line_at, island_lines, shows_islands, IslandSheetOf, IslandSheet}
use Rattle.meaning.specs.Islands.{size}
use Rattle.meaning.proofs.Lists.{every-mem}
use Rattle.meaning.proofs.Lent.{eight}
use Rattle.meaning.proofs.Calls.{tells-accepted, tells-refusal, table-tells}
use Rattle.meaning.proofs.Determined.{same-refusal}
use Rattle.meaning.proofs.Memory.{given-few, sheet-memory}
use Rattle.meaning.proofs.Counts.{listing-few}
use Rattle.meaning.proofs.Digits.{digits-one}
use Rattle.meaning.proofs.EitherKind.{form-length_as}
use Rattle.meaning.proofs.Unlinked.{unlinked-neighbours-copies}
use Rattle.lent.proofs.Tallies.{count-le}
use Rattle.writing.proofs.Laws.{length_digits}
use Rattle.writing.proofs.Lines.{two-length, tree-length}
use Rattle.sheet.proofs.Rows.{rows-length}
use Rattle.sheet.proofs.Turns.{trees-rows, good-one, pair_row, pairs-rows, lines_rows}

-- the least number of more than d + 1 digits
abbrev tens : ℕ → ℕ
tens zero = 10
tens (suc d) = 10 * tens d

digits-few : (d n : ℕ) → n < tens d → length (digits n) ≤ suc d
digits-few zero n h = omega (arith, ap length (digits-one n (omega arith)))
digits-few (suc d) n h = by (dec_le n 9) (digits-few d (n / 10) (omega arith))
  where
    by : Dec (n ≤ 9) → length (digits (n / 10)) ≤ suc d → length (digits n) ≤ suc (suc d)
    by (yes l) rest = omega (arith, ap length (digits-one n l))
    by (no l) rest = omega (arith, length_digits n (omega arith))

three : (n : ℕ) → n < 1000 → length (digits n) ≤ 3
three n h = digits-few 2 n h

five : (n : ℕ) → n < 100000 → length (digits n) ≤ 5
five n h = digits-few 4 n h

-- the lines
first_short : (k m : ℕ) → k ≤ max_trees → m ≤ 12720 → length (first_line k m) ≤ first_line_bytes
first_short k m h l = omega (arith, two-length (bytes "trees ") k (bytes " pairs ") m, three k (omega arith), five m (omega arith))

refusal-short : (n p : ℕ) → n < 1000 → p < 100000 → length (refusal_line n p) ≤ 21
refusal-short n p h l = omega (arith, two-length (bytes "refused ") n (bytes " at ") p, three n h, five p l)

pair-short : (i j : ℕ) → i < 1000 → j < 1000 → length (pair_line i j) ≤ pair_line_bytes
pair-short i j h l = omega (arith, two-length (bytes "pair ") i (bytes " ") j, three i h, three j l)

module _ (ts : Trees) (ps : List Pair) (G : AllGood ts.trees) (L : Listing (length ts.trees) (At (ApartAs ts.kind) ts.trees) ps) (few : length ts.trees ≤ max_trees) where
  trees-short : length (tree_lines ts ps 0 ts.trees) ≤ tree_line_bytes * length ts.trees
  trees-short =
      rw trees-rows (rows-length (tree_line_of ts ps) tree_line_bytes 0 ts.trees λ i t m h.
      let inside : i < length ts.trees = omega arith in
      let all = unlinked-neighbours-copies ts.kind ts.trees G L i inside in
      omega (
        arith,
        tree-length ts.kind i (neighbours ps i) (unlinked ts.trees ps i) t,
        three i (omega arith),
        three (neighbours ps i) (omega arith),
        three (unlinked ts.trees ps i) (omega arith),
        form-length_as ts.kind (good-one ts.trees G m),
      ))

  pairs-short : length (pair_lines ps) ≤ pair_line_bytes * length ps
  pairs-short =
      rw (pairs-rows 0) (rows-length pair_row pair_line_bytes 0 ps λ i p m h.
      let inside = (L.listed p.0 p.1).0 m in
      pair-short p.0 p.1 (omega arith) (omega arith))

  pub sheet-short : length (sheet ts ps) ≤ sheet_bytes
  unfolding sheet
  sheet-short = simp length-append (omega (arith, first_short (length ts.trees) (length ps) few (listing-few L few), trees-short, pairs-short, listing-few L few))

-- a refusal's place is 0 where the text is too long, and else in the text or its end
place_short : (s : List ℕ) {n i p : ℕ} → table_read either s ≡ refusal n i p → p ≤ text_bytes
place_short s {p} e = by (dec_le (length s) text_bytes)
  where
    by : Dec (length s ≤ text_bytes) → p ≤ text_bytes
    by (yes h) = omega (arith, (tells-refusal (table-tells either s) e).place)
    by (no h) = omega (arith, (same-refusal (eight 0 s _ (omega arith)) e).2)

-- and its number is at most 10
refusal-fits : (s : List ℕ) {n i p : ℕ} → table_read either s ≡ refusal n i p → length (refusal_line n p) ≤ 21
refusal-fits s {n} {i} {p} e =
    let small = leb→le n 10 (every-mem (λ (m : ℕ). leb m 10) tt (tells-refusal (table-tells either s) e).number) in
    refusal-short n p (omega arith) (omega (arith, place_short s e))

-- what is printed for any text
pub sheet-fits : {s x : List ℕ} → Sheet s x → length x ≤ sheet_bytes
sheet-fits {s} (prints ts x e w) = short ts x e w
  where
    short : (ts : Trees) (x : List ℕ) → table_read either s ≡ accepted ts → SheetOf ts x → length x ≤ sheet_bytes
    short ts x e (shows_pairs ps L) = let r = tells-accepted (table-tells either s) e in sheet-short ts ps r.good L (given-few r)
sheet-fits {s} (Printout.refuses n i p e) = omega (arith, refusal-fits s e)

-- ---- islands
island-short : (m n : ℕ) → m < 1000 → n < 1000 → length (island_line m n) ≤ island_line_bytes
island-short m n h l = omega (arith, two-length (bytes "island ") m (bytes " ") n, three m h, three n l)

-- one line, or none
line-short : (ms : List ℕ) (i x : ℕ) → i < 1000 → length ms < 1000 → length (line_at ms i x) ≤ island_line_bytes
line-short ms i x h l = by (eqb x i)
  where
    by : (b : Bool) → length (cond b (island_line i (size ms i)) []) ≤ island_line_bytes
    by true = island-short i (size ms i) h (omega (arith, count-le (λ y. eqb y i) ms))
    by false = omega arith

pub islands-short : (ms : List ℕ) → length ms ≤ max_trees → length (island_lines ms) ≤ island_sheet_bytes
islands-short ms few =
    rw lines_rows (omega (arith, rows-length (line_at ms) island_line_bytes 0 ms (λ i x m h. line-short ms i x (omega arith) (omega arith)), few))

pub island-sheet-fits : {s x : List ℕ} → IslandSheet s x → length x ≤ island_sheet_bytes
island-sheet-fits {s} (prints ts x e w) = short ts x e w
  where
    short : (ts : Trees) (x : List ℕ) → table_read either s ≡ accepted ts → IslandSheetOf ts x → length x ≤ island_sheet_bytes
    short ts x e (shows_islands ps ms L I) = islands-short ms (omega (arith, I.many, given-few (tells-accepted (table-tells either s) e)))
island-sheet-fits {s} (Printout.refuses n i p e) = omega (arith, refusal-fits s e)

-- so the sheet call keeps the length of what it is lent
pub sheet-kept : {s out : List ℕ} {o : Outcome ℕ (List ℕ)} → SheetCall s out o → length o.memory ≡ length out
sheet-kept h = sheet-memory (λ x p. sheet-fits p) h
