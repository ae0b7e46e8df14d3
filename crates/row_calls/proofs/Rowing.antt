-- The ways through the calls on rows.
-- Assumes nothing.
use mathlib.Core.Path.{◌≡◌, sym, subst, ◌∙◌}
use mathlib.Core.Logic.{◌≢◌}
use mathlib.Core.Bool.{Bool, true, false}
use mathlib.Core.List.{List, [], ◌∷◌}
use Prim.Native.Nat.{ℕ, ◌+◌, ◌≤◌, ◌<◌}
use native.Mathlib.Omega.{arith}
use borrow.Author.Tests.{eq-eqb, ne_eqb}
use lib.Dec.{T}
use lib.ListN.{length, get_or}
use Rattle.meaning.specs.Limits.{max_label}
use Rattle.meaning.specs.Tree.{Tree as Topology}
use Rattle.meaning.specs.Kind.{rooted, Kinded, rooted_only}
use Rattle.meaning.specs.EitherKind.{form_as}
use Rattle.meaning.specs.Clade.{clade}
use Rattle.meaning.specs.Move.{Apart}
use Rattle.meaning.specs.Reading.{read_tree}
use Rattle.meaning.specs.Compared.{compared}
use Rattle.meaning.specs.Answer.{accepted, refusal, text_of}
use Rattle.meaning.specs.Calls.{enough, lent as lent_if, limited, answered}
use Rattle.meaning.proofs.Logic.{clash}
use Rattle.meaning.proofs.Length.{form-length}
use Rattle.meaning.proofs.Lent.{lent-ample, concluded}
use Rattle.lent.specs.Runs.{Wrote, Says}
use Rattle.held.specs.Kept.{Keeps, Kept, KeepsKind, KeptKindRoom}
use Rattle.held.specs.declared.Tree.{Tree}
use Rattle.reading.specs.Whole.{Reads}
use Rattle.reading.specs.declared.TreeRead.{TreeRead}
use Rattle.tables.specs.Lent.{Given}
use Rattle.pairs.specs.Pair.{Tested}
use Rattle.pairs.specs.declared.Comparison.{Comparison as Told}
use Rattle.calls.specs.Paper.{text_outcome, comparison_of}
use Rattle.std.specs.Prelude.{Ok}
use Rattle.calls.proofs.Texts.{wrote-text}
use Rattle.families.specs.Row.{row, is_row, row_tree}
use Rattle.families.specs.RowCalls.{row_slices, row_read, row_call, row_given, row_text_slices, row_text_call, rows_read, RowPairCall, stands_apart, not_apart, refuses}
use Rattle.families.proofs.Row.{row-length-64, row-tree-clade}

-- ---- the row call
module _ (s out : List ℕ) {read : TreeRead} (R : Given (row_read s out) (Reads read)) where
  pub row-call-room : Kept read.tree × (max_label ≤ length out)
  row-call-room = (record { topology = R.value.tree; keeps = R.keeps.keeps.keeps }, lent-ample (row_slices out) (limited 0 s (answered 0 (read_tree rooted_only s))) R.is)

  pub row-call-written : {out' : List ℕ} {n : ℕ} → ((t : Topology) → Keeps read.tree t → Wrote (row t) out out' 0 n) → text_outcome (Ok n) out' ≡ row_call s out
  row-call-written w =
      wrote-text (w R.value.tree R.keeps.keeps.keeps) (omega (arith, row-length-64 R.keeps.keeps.keeps.good, row-call-room.1))
      ∙ concluded out (λ x. text_of (row x.tree) out) R.is

-- ---- the row text call
module _ (xs out : List ℕ) where
  module _ (lent : enough (row_text_slices out) ≡ true) where
    module _ (is : is_row xs ≡ true) {tree : Tree} (k : KeepsKind tree (record { kind = rooted; tree = row_tree xs })) where
      given : lent_if (enough (row_text_slices out)) (row_given 0 xs) ≡ accepted (row_tree xs)
      given = rw (lent, is)

      room : length (form_as rooted (row_tree xs)) ≤ length out
      room = omega (arith, form-length k.keeps.good, lent-ample (row_text_slices out) (row_given 0 xs) given)

      pub text-room : KeptKindRoom (λ x. 0 + length (form_as x.kind x.tree)) tree (length out)
      text-room = record { kinded = record { kind = rooted; tree = row_tree xs }; keeps = k; room = omega (arith, room) }

      pub text-written : {out' : List ℕ} {n : ℕ} → ((x : Kinded) → KeepsKind tree x → Wrote (form_as x.kind x.tree) out out' 0 n) → text_outcome (Ok n) out' ≡ row_text_call xs out
      text-written w = wrote-text (w (record { kind = rooted; tree = row_tree xs }) k) room ∙ rw (lent, is)

-- ---- the row pair call
-- a row has a label set
pub row-some : (xs : List ℕ) → is_row xs ≡ true → 0 < length xs
unfolding is_row
row-some [] e = clash cc
row-some (x ∷ xs) e = omega arith

module _ (xs ys : List ℕ) where
  pub first-none : is_row xs ≡ false → RowPairCall xs ys (refusal 11 0 0)
  first-none e = refuses 11 0 0 (rw e)

  module _ (is : is_row xs ≡ true) where
    pub second_none : is_row ys ≡ false → RowPairCall xs ys (refusal 11 1 0)
    second_none e = refuses 11 1 0 (rw (is, e))

    module _ (is' : is_row ys ≡ true) where
      labels-are : (clade (row_tree xs) ≡ get_or xs 0 0) × (clade (row_tree ys) ≡ get_or ys 0 0)
      labels-are = (row-tree-clade xs (subst T (sym is) tt), row-tree-clade ys (subst T (sym is') tt))

      pub labels-differ : get_or xs 0 0 ≢ get_or ys 0 0 → RowPairCall xs ys (refusal 5 1 0)
      labels-differ n = refuses 5 1 0 (rw (is, is', ne_eqb (clade (row_tree xs)) (clade (row_tree ys)) (λ e. n (sym labels-are.0 ∙ e ∙ labels-are.1))))

      module _ (same : get_or xs 0 0 ≡ get_or ys 0 0) where
        both : rows_read xs ys ≡ accepted (row_tree xs, row_tree ys)
        both = rw (is, is', eq-eqb (clade (row_tree xs)) (clade (row_tree ys)) (labels-are.0 ∙ same ∙ sym labels-are.1))

        pub rows_told : (told : Told) → Tested (row_tree xs) (row_tree ys) told → RowPairCall xs ys (accepted (comparison_of told))
        rows_told told t = by told.yes t.apart t.number
          where
            by : (b : Bool) {m : ℕ} → Says b (Apart (row_tree xs) (row_tree ys)) → m ≡ compared (row_tree xs) (row_tree ys) → RowPairCall xs ys (accepted (record { yes = b; forests = m }))
            by true s e = rw e (stands_apart (row_tree xs) (row_tree ys) both s)
            by false s e = rw e (not_apart (row_tree xs) (row_tree ys) both s)
