-- What a program prints for a text: what it shows of the text's trees, or the line of its refusal.
-- Assumes nothing.
use mathlib.Core.Path.{◌≡◌, ◌∙◌}
use mathlib.Core.List.{List}
use Prim.Native.Nat.{ℕ, ◌≤◌}
use native.Mathlib.Omega.{arith}
use lib.ListN.{length}
use Rattle.meaning.specs.Calls.{table_read}
use Rattle.meaning.specs.Kind.{Trees, either}
use Rattle.meaning.specs.Sheet.{refusal_line, Printout, prints}
use Rattle.lent.specs.Runs.{Wrote}
use Rattle.lent.proofs.Runs.{sets-start, wrote-length}
use Rattle.held.specs.Kept.{KeepsTrees}
use Rattle.tokens.specs.Paper.{number_of, refusal_of}
use Rattle.tokens.specs.declared.Refusal.{Refusal}
use Rattle.held.specs.declared.Table.{Table}
use Rattle.tables.specs.Lent.{Given}
use Rattle.sheet.specs.Printed.{TableFits, ShownAll, Printed}

-- a program prints at most `most` bytes, of which there is room
module _ {Prints : Trees → List ℕ → Type 0} {most : ℕ} (s out : List ℕ) (room : most ≤ length out) (fits : (x : List ℕ) → Printout Prints s x → length x ≤ most) where
  printed : {x out' : List ℕ} {r : ℕ} → Printout Prints s x → Wrote x out out' 0 r → Printed Prints s out out' r
  printed {x} h w = record {
    bytes = x;
    prints = h;
    many = omega (arith, w.behind);
    room = omega (arith, w.behind, fits x h, room, wrote-length w);
    memory = w.cells ∙ sets-start out x (omega (arith, fits x h, room));
  }

  -- a text that is refused
  module _ (x : Refusal) (e : table_read either s ≡ refusal_of x) where
    refused-prints : Printout Prints s (refusal_line (number_of x.reason) x.place)
    refused-prints = Printout.refuses (number_of x.reason) x.text x.place e

    pub refusal-room : length (refusal_line (number_of x.reason) x.place) ≤ length out
    refusal-room = omega (arith, fits (refusal_line (number_of x.reason) x.place) refused-prints, room)

    pub refusal-printed : {out' : List ℕ} {r : ℕ} → Wrote (refusal_line (number_of x.reason) x.place) out out' 0 r → Printed Prints s out out' r
    refusal-printed w = printed refused-prints w

  -- the trees of a text that is accepted
  module _ {table : Table} (R : Given (table_read either s) (KeepsTrees table)) where
    pub table_fits : TableFits table most (length out)
    table_fits = record { kept = record { trees = R.value; keeps = R.keeps }; room = room }

    pub table-printed : {out' : List ℕ} {r : ℕ} → ShownAll Prints table out out' r → Printed Prints s out out' r
    table-printed all = let w = all R.value R.keeps in printed (prints R.value w.bytes R.is w.shows) w.wrote
