-- The ways through the plot call.
-- Assumes nothing.
use mathlib.Core.Path.{◌≡◌, ◌∙◌}
use mathlib.Core.List.{List}
use Prim.Native.Nat.{ℕ, ◌≤◌}
use native.Mathlib.Nat.{zero-add}
use native.Mathlib.Omega.{arith}
use lib.ListN.{length}
use lib.Ieee.{Float}
use Rattle.meaning.specs.Limits.{max_nodes}
use Rattle.meaning.specs.Tree.{Tree, canon}
use Rattle.meaning.specs.Kind.{rooted_only}
use Rattle.meaning.specs.Reading.{read_tree}
use Rattle.meaning.specs.Answer.{accepted, written}
use Rattle.meaning.specs.Calls.{limited, answered}
use Rattle.meaning.proofs.Lent.{lent-ample, concluded}
use Rattle.lent.specs.Runs.{Wrote}
use Rattle.lent.proofs.Runs.{sets-start}
use Rattle.held.specs.Kept.{Keeps, Kept}
use Rattle.std.specs.Prelude.{Ok}
use Rattle.reading.specs.Whole.{Reads}
use Rattle.reading.specs.declared.TreeRead.{TreeRead}
use Rattle.tables.specs.Lent.{Given}
use Rattle.plots.specs.Plot.{rows, columns}
use Rattle.plots.specs.PlotCall.{PlotMemory, plot_slices, plot_read, plot_of, plot_call}
use Rattle.plots.proofs.PlotCall.{rows_fit, columns-fit}
use Rattle.plot_calls.specs.Paper.{plot_memory, plot_outcome}

-- both runs are written from the start of their slices on
both-written : {xs rs rs' : List Float} {ys cs cs' : List ℕ} {n : ℕ} → Wrote xs rs rs' 0 n → Wrote ys cs cs' 0 n → length xs ≤ length rs → length ys ≤ length cs
    → plot_outcome (Ok n) rs' cs' ≡ record { answer = accepted (length xs); memory = plot_memory (written xs rs) (written ys cs) }
both-written {xs} {rs} {ys} {cs} v w h l = same (v.behind ∙ zero-add (length xs)) (v.cells ∙ sets-start rs xs h) (w.cells ∙ sets-start cs ys l)
  where
    same : {n n' : ℕ} {x x' : List Float} {y y' : List ℕ} → n ≡ n' → x ≡ x' → y ≡ y' → plot_outcome (Ok n) x y ≡ record { answer = accepted n'; memory = plot_memory x' y' }
    same a b c = rw (a, b, c)

module _ (s : List ℕ) (memory : PlotMemory) {read : TreeRead} (R : Given (plot_read s memory) (Reads read)) where
  lent_both : (max_nodes ≤ length memory.rows) × (max_nodes ≤ length memory.columns)
  lent_both = lent-ample (plot_slices memory) (limited 0 s (answered 0 (read_tree rooted_only s))) R.is

  pub plot-call-room : Kept read.tree × (max_nodes ≤ length memory.rows) × (max_nodes ≤ length memory.columns)
  plot-call-room = (record { topology = R.value.tree; keeps = R.keeps.keeps.keeps }, lent_both.0, lent_both.1)

  pub plot-call-written : {rs : List Float} {cs : List ℕ} {n : ℕ}
      → ((t : Tree) → Keeps read.tree t → Wrote (rows (canon t)) memory.rows rs 0 n × Wrote (columns (canon t)) memory.columns cs 0 n)
      → plot_outcome (Ok n) rs cs ≡ plot_call s memory
  plot-call-written w =
      let k = R.keeps.keeps.keeps in
      let v = w R.value.tree k in
      both-written v.0 v.1 (omega (arith, rows_fit k.good, lent_both.0)) (omega (arith, columns-fit k.good, lent_both.1))
      ∙ concluded memory (λ x. plot_of x.tree memory) R.is
