-- The promise of the plot call determines its answer and the lent memory at exit.
-- Assumes nothing.
use mathlib.Core.Path.{◌≡◌, sym, ap, ◌∙◌}
use mathlib.Core.List.{List}
use Prim.Native.Nat.{ℕ}
use lib.Ieee.{Float}
use Rattle.meaning.specs.Answer.{Outcome}
use Rattle.std.specs.Prelude.{Result}
use Rattle.tokens.specs.declared.Refusal.{Refusal}
use Rattle.calls.proofs.Determined.{text-one}
use Rattle.plots.specs.PlotCall.{PlotMemory, plot_call}
use Rattle.plot_calls.specs.Paper.{plot_outcome}

pub plot-call-determined : (s : List ℕ) (memory : PlotMemory) {r r' : Result ℕ Refusal} {rs rs' : List Float} {cs cs' : List ℕ}
    → plot_outcome r rs cs ≡ plot_call s memory → plot_outcome r' rs' cs' ≡ plot_call s memory → (r ≡ r') × (rs ≡ rs') × (cs ≡ cs')
plot-call-determined s memory {r} {r'} e f =
    let h = e ∙ sym f in (
      text-one r r' (ap (λ (o : Outcome ℕ PlotMemory). o.answer) h),
      ap (λ (o : Outcome ℕ PlotMemory). o.memory.rows) h,
      ap (λ (o : Outcome ℕ PlotMemory). o.memory.columns) h,
    )
