-- The plot call: what it accepts and refuses, in which order, what it writes, that this fits, and that each row written is within 2 ^ -42 of the exact one.
-- Assumes nothing.
use mathlib.Core.Path.{◌≡◌, refl, sym, ap, ◌∙◌}
use mathlib.Core.List.{List}
use Prim.Native.Nat.{ℕ, ◌+◌, ◌*◌, ◌≤◌, ◌<◌}
use native.Mathlib.Omega.{arith}
use lib.ListN.{length, take, drop}
use lib.Seq.{take_at}
use Rattle.meaning.specs.Limits.{text_bytes, max_nodes}
use Rattle.meaning.specs.Tree.{Tree, Good, SameTopology, canon, leaves, form}
use Rattle.meaning.specs.Kind.{rooted, Kinded, rooted_only}
use Rattle.meaning.specs.EitherKind.{canon_kinded}
use Rattle.meaning.specs.Reading.{refused, read_tree}
use Rattle.meaning.specs.Answer.{Answer, accepted, refusal, Outcome, written, conclude}
use Rattle.meaning.specs.Calls.{enough, limited, answered}
use Rattle.meaning.proofs.Same.{≈-leaves}
use Rattle.meaning.proofs.Canon.{canon-≈, canon-good, canon-topology, topology-iff-canon}
use Rattle.meaning.proofs.Length.{leaves-64, form-length}
use Rattle.meaning.proofs.Round.{read-form}
use Rattle.meaning.proofs.Calls.{Tells, tells-accepted, Line, OneTree, lent-tree-tells}
use Rattle.meaning.proofs.Lent.{Ample, Short, seven, ample, lent-ample, eight, in-limit}
use Rattle.meaning.proofs.Memory.{written-length, written_behind, concluded}
use Rattle.plots.specs.Plot.{row, columns, rows, exacts, EachWithin}
use Rattle.plots.specs.PlotCall.{PlotMemory, plot_slices, plot_read, plot_of, plot_call}
use Rattle.plots.specs.PlotRefusals.{plot_refusals}
use Rattle.plots.proofs.Nodes.{order-length}
use Rattle.plots.proofs.Rows.{rows-within}

-- ---- a tree's lists
-- each has 2n - 1 cells, of which there are at most 127
pub row_count : (t : Tree) → length (rows (canon t)) + 1 ≡ 2 * leaves t
row_count t = omega (arith, order-length (λ c i s. row i s) 0 0 (canon t), ≈-leaves (canon-≈ t))

pub column-count : (t : Tree) → length (columns (canon t)) + 1 ≡ 2 * leaves t
column-count t = omega (arith, order-length (λ c i s. c) 0 0 (canon t), ≈-leaves (canon-≈ t))

pub rows_fit : {t : Tree} → Good t → length (rows (canon t)) ≤ max_nodes
rows_fit {t} G = omega (arith, row_count t, leaves-64 G)

pub columns-fit : {t : Tree} → Good t → length (columns (canon t)) ≤ max_nodes
columns-fit {t} G = omega (arith, column-count t, leaves-64 G)

-- each row is within 2 ^ -42 of the exact one
pub each_within : {t : Tree} → Good t → EachWithin (rows (canon t)) (exacts (canon t))
each_within {t} G = rows-within (canon t) (leaves-64 (canon-good G))

-- trees of one topology have one plot, however their texts are written
pub plot-topology : {t u : Tree} → Good t → Good u → SameTopology t u → (memory : PlotMemory) → plot_of t memory ≡ plot_of u memory
plot-topology G H same memory =
    ap (λ (v : Tree). record { answer = accepted (length (rows v)); memory = record { rows = written (rows v) memory.rows; columns = written (columns v) memory.columns } })
    ((topology-iff-canon G.distinct H.distinct).0 same)

module _ (s : List ℕ) (memory : PlotMemory) where
  -- ---- what is accepted, and by which lines is refused
  pub plot-tells : Tells (OneTree rooted_only s) (Line plot_refusals s) (plot_read s memory)
  plot-tells = lent-tree-tells rooted_only (enough (plot_slices memory)) s

  -- ---- the order of the refusals: 7, then 8, then the text's
  pub plot-seven : Short (plot_slices memory) → plot_read s memory ≡ refusal 7 0 0
  plot-seven h = seven (plot_slices memory) _ h

  module _ (room : Ample (plot_slices memory)) where
    pub plot-eight : text_bytes < length s → plot_read s memory ≡ refusal 8 0 0
    plot-eight h = ample (plot_slices memory) _ room ∙ eight 0 s _ h

    pub plot-reads : length s ≤ text_bytes → plot_read s memory ≡ answered 0 (read_tree rooted_only s)
    plot-reads h = ample (plot_slices memory) _ room ∙ in-limit 0 s _ h

    pub plot-refuses : length s ≤ text_bytes → (n p : ℕ) → read_tree rooted_only s ≡ refused n p → plot_read s memory ≡ refusal n 0 p
    plot-refuses h n p e = plot-reads h ∙ ap (answered 0) e

  -- ---- an outcome for every text
  -- a refusal changes no cell
  pub plot-refused : {n i p : ℕ} → plot_read s memory ≡ refusal n i p → plot_call s memory ≡ record { answer = refusal n i p; memory = memory }
  plot-refused e = ap (λ (a : Answer Kinded). conclude a memory λ x. plot_of x.tree memory) e

  module _ {x : Kinded} (e : plot_read s memory ≡ accepted x) where
    abbrev t : Tree
    t = x.tree

    pub plot-done : plot_call s memory ≡ plot_of t memory
    plot-done = ap (λ (a : Answer Kinded). conclude a memory λ x. plot_of x.tree memory) e

    pub plot-good : Good t
    plot-good = (tells-accepted plot-tells e).0

    plot-room : Ample (plot_slices memory)
    plot-room = lent-ample (plot_slices memory) (limited 0 s (answered 0 (read_tree rooted_only s))) e

    -- the number of nodes, 2n - 1
    pub plot-count : {k : ℕ} → (plot_call s memory).answer ≡ accepted k → k + 1 ≡ 2 * leaves t
    plot-count {k} f =
        let g : accepted (length (rows (canon t))) ≡ accepted k = sym (ap (λ (o : Outcome ℕ PlotMemory). o.answer) plot-done) ∙ f in
        let h : length (rows (canon t)) ≡ k = cc in
        omega (arith, h, row_count t)

    -- the first cells have the rows and the columns
    pub plot-rows : take (length (rows (canon t))) (plot_call s memory).memory.rows ≡ rows (canon t)
    plot-rows = ap (λ (o : Outcome ℕ PlotMemory). take (length (rows (canon t))) o.memory.rows) plot-done ∙ take_at (rows (canon t)) _ (length (rows (canon t))) refl

    pub plot-columns : take (length (columns (canon t))) (plot_call s memory).memory.columns ≡ columns (canon t)
    plot-columns = ap (λ (o : Outcome ℕ PlotMemory). take (length (columns (canon t))) o.memory.columns) plot-done ∙ take_at (columns (canon t)) _ (length (columns (canon t))) refl

    -- and each row there is within 2 ^ -42 of the exact one
    pub plot-within : EachWithin (take (length (rows (canon t))) (plot_call s memory).memory.rows) (exacts (canon t))
    plot-within = rw plot-rows (each_within plot-good)

    -- the cells behind the nodes stay as they were
    pub plot-behind : (k : ℕ) → 2 * leaves t ≤ k + 1
        → (drop k (plot_call s memory).memory.rows ≡ drop k memory.rows) × (drop k (plot_call s memory).memory.columns ≡ drop k memory.columns)
    plot-behind k h = (
      ap (λ (o : Outcome ℕ PlotMemory). drop k o.memory.rows) plot-done ∙ written_behind (rows (canon t)) memory.rows k (omega (arith, row_count t)),
      ap (λ (o : Outcome ℕ PlotMemory). drop k o.memory.columns) plot-done ∙ written_behind (columns (canon t)) memory.columns k (omega (arith, column-count t)),
    )

  -- ---- each slice keeps its length
  pub plot-memory : (length (plot_call s memory).memory.rows ≡ length memory.rows) × (length (plot_call s memory).memory.columns ≡ length memory.columns)
  plot-memory =
      concluded (λ (m : PlotMemory). (length m.rows ≡ length memory.rows) × (length m.columns ≡ length memory.columns))
      (plot_read s memory) memory (λ x. plot_of x.tree memory) (refl, refl) (λ x e.
      let room = plot-room e in (
        written-length (rows (canon x.tree)) memory.rows (omega (arith, rows_fit (plot-good e), room.0)),
        written-length (columns (canon x.tree)) memory.columns (omega (arith, columns-fit (plot-good e), room.1)),
      ))

  -- ---- the call has one outcome
  pub plot-determined : (o o' : Outcome ℕ PlotMemory) → o ≡ plot_call s memory → o' ≡ plot_call s memory → o ≡ o'
  plot-determined o o' e f = e ∙ sym f

-- every tree's canonical text is plotted
pub plot-form : (t : Tree) → Good t → (memory : PlotMemory) → Ample (plot_slices memory) → plot_call (form t) memory ≡ plot_of t memory
plot-form t G memory room =
    let read : plot_read (form t) memory ≡ accepted (canon_kinded rooted t) =
    plot-reads (form t) memory room (omega (arith, form-length G)) ∙ ap (answered 0) (read-form rooted_only rooted refl G) in
    plot-done (form t) memory read ∙ plot-topology (canon-good G) G (canon-topology t) memory
