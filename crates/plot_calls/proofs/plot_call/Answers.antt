-- The plot of the tree that was read.
use Rattle.plot_calls.specs.Paper.{plot_memory}
use Rattle.plot_calls.proofs.PlotWays.{plot-call-room, plot-call-written}
use Rattle.plot_calls.proofs.plot_call.Goals as goal

pub write_plot-requires : goal.write_plot-requires
write_plot-requires c =
    plot-call-room c.args.s.now (plot_memory c.args.rows.now c.args.columns.now) (rw (c.enough-fits.ensures, c.enough-columns_fit.ensures) at c.in_ok-read.ensures)

pub returns : goal.returns
returns c =
    plot-call-written c.args.s.now (plot_memory c.args.rows.now c.args.columns.now) (rw (c.enough-fits.ensures, c.enough-columns_fit.ensures) at c.in_ok-read.ensures) c.write_plot.ensures
