-- The ways through the sheet call.
-- Assumes nothing.
use mathlib.Core.Path.{◌≡◌, subst}
use mathlib.Core.Bool.{true, false}
use mathlib.Core.List.{List}
use Prim.Native.Nat.{ℕ}
use Rattle.meaning.specs.Calls.{enough}
use Rattle.meaning.specs.Sheet.{SheetOf, sheet_slices, SheetCall, gives}
use Rattle.meaning.proofs.Calls.{sheet-exists}
use Rattle.std.specs.Prelude.{Ok, Err}
use Rattle.tokens.specs.declared.Reason.TheVariants.{ShortSlice}
use Rattle.sheet.specs.Printed.{Printed}
use Rattle.calls.specs.Paper.{text_outcome}

module _ (s out : List ℕ) where
  -- it is lent too little
  pub sheet-refused : enough (sheet_slices out) ≡ false → SheetCall s out (text_outcome (Err (record { reason = ShortSlice; text = 0; place = 0 })) out)
  sheet-refused e = let (y, h) = sheet-exists s in subst (SheetCall s out) (rw e) (gives y h)

  -- or it prints
  pub sheet-printed : {out' : List ℕ} {r : ℕ} → enough (sheet_slices out) ≡ true → Printed SheetOf s out out' r → SheetCall s out (text_outcome (Ok r) out')
  sheet-printed e p = subst (SheetCall s out) (rw (e, p.many, p.memory)) (gives p.bytes p.prints)
