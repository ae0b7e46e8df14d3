-- The ways through the form call and the cut call.
-- Assumes nothing.
use mathlib.Core.Path.{◌≡◌, ap₂, ◌∙◌}
use mathlib.Core.List.{List}
use Prim.Native.Nat.{ℕ, ◌+◌, ◌-◌, ◌*◌, ◌≤◌, ◌<◌}
use native.Mathlib.Nat.{zero-add}
use native.Mathlib.Omega.{arith}
use borrow.Author.Tests.{le-ltb, lt-ltb}
use lib.ListN.{length}
use Rattle.std.specs.Prelude.{Ok, Err}
use Rattle.meaning.specs.Limits.{forest_bytes}
use Rattle.meaning.specs.Tree.{Tree as Topology, leaves}
use Rattle.meaning.specs.Kind.{Kinded, either}
use Rattle.meaning.specs.EitherKind.{form_as}
use Rattle.meaning.specs.Move.{cut_at, forest}
use Rattle.meaning.specs.Reading.{read_tree}
use Rattle.meaning.specs.Answer.{accepted, written, text_of}
use Rattle.meaning.specs.Calls.{limited, answered, form_slices, form_read, form_call}
use Rattle.meaning.proofs.Forests.{cut_at-good}
use Rattle.meaning.proofs.EitherKind.{form-length_as}
use Rattle.meaning.proofs.Length.{forest-length}
use Rattle.meaning.proofs.Lent.{lent-ample, concluded}
use Rattle.lent.specs.Runs.{Wrote}
use Rattle.lent.proofs.Runs.{sets-start}
use Rattle.held.specs.Held.{nodes}
use Rattle.held.specs.Kept.{Keeps, KeepsKind, KeptKindRoom}
use Rattle.held.specs.declared.Tree.{Tree}
use Rattle.held.proofs.Laws.{twice, some-nodes}
use Rattle.tokens.specs.declared.Reason.TheVariants.{NoSuchCut}
use Rattle.reading.specs.Whole.{Reads}
use Rattle.reading.specs.declared.TreeRead.{TreeRead}
use Rattle.writing.specs.Writing.{ForestFits}
use Rattle.tables.specs.Lent.{Given}
use Rattle.calls.specs.Cuts.{CutRoom, cut_text}
use Rattle.calls.specs.Paper.{text_outcome}

-- what is written from the start of a slice on
pub wrote-text : {ys out out' : List ℕ} {r : ℕ} → Wrote ys out out' 0 r → length ys ≤ length out → text_outcome (Ok r) out' ≡ record { answer = accepted (length ys); memory = written ys out }
wrote-text {ys} {out} w h = ap₂ (λ (n : ℕ) (m : List ℕ). text_outcome (Ok n) m) (w.behind ∙ zero-add (length ys)) (w.cells ∙ sets-start out ys h)

-- ---- the form call
module _ (s out : List ℕ) where
  module _ {read : TreeRead} (R : Given (form_read s out) (Reads read)) where
    room : length (form_as R.value.kind R.value.tree) ≤ length out
    room = omega (arith, form-length_as R.value.kind R.keeps.keeps.keeps.good, lent-ample (form_slices out) (limited 0 s (answered 0 (read_tree either s))) R.is)

    pub form-fits : KeptKindRoom (λ x. 0 + length (form_as x.kind x.tree)) read.tree (length out)
    form-fits = record { kinded = R.value; keeps = R.keeps.keeps; room = omega (arith, room) }

    pub form-written : {out' : List ℕ} {n : ℕ} → ((x : Kinded) → KeepsKind read.tree x → Wrote (form_as x.kind x.tree) out out' 0 n) → text_outcome (Ok n) out' ≡ form_call s out
    form-written w = wrote-text (w R.value R.keeps.keeps) room ∙ concluded out (λ x. text_of (form_as x.kind x.tree) out) R.is

-- ---- the cut, once the tree is read: a tree of n leaves has 2n - 1 nodes and 2n - 2 cuts
module _ {tree : Tree} {count len : ℕ} (R : CutRoom tree count len) where
  pub cut-some : 1 ≤ count
  cut-some = omega (arith, R.size, some-nodes R.topology)

  pub forest-fits : {c : ℕ} → c < count - 1 → ForestFits tree c 0 len
  forest-fits {c} h =
      let l : c < 2 * leaves R.topology - 2 = omega (arith, R.size, twice R.topology) in
      record { topology = R.topology; keeps = R.keeps; is_cut = l; room = omega (arith, R.room, forest-length (cut_at R.topology c) (cut_at-good R.keeps.good c l)) }

module _ (t : Topology) (c count : ℕ) (out : List ℕ) (size : count ≡ nodes t) where
  pub no-such-cut : count - 1 ≤ c → text_outcome (Err (record { reason = NoSuchCut; text = 0; place = 0 })) out ≡ cut_text t c out
  no-such-cut h = rw (le-ltb c (2 * leaves t - 2) (omega (arith, twice t)))

  pub cut-written : {tree : Tree} {out' : List ℕ} {r : ℕ} → Keeps tree t → forest_bytes ≤ length out → c < count - 1
      → Wrote (forest (cut_at t c)) out out' 0 r → text_outcome (Ok r) out' ≡ cut_text t c out
  cut-written k room h w =
      let l : c < 2 * leaves t - 2 = omega (arith, twice t) in
      wrote-text w (omega (arith, forest-length (cut_at t c) (cut_at-good k.good c l))) ∙ rw (lt-ltb c (2 * leaves t - 2) l)
