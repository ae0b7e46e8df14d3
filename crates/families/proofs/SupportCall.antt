-- The support call: what it accepts and refuses, that what it writes fits and keeps the length of each slice, and that it tells of the majority tree.
-- Assumes nothing.
use mathlib.Core.Path.{◌≡◌, refl, sym, ◌∙◌}
use mathlib.Core.List.{List, ◌∷◌}
use Prim.Native.Nat.{ℕ, ◌≤◌}
use native.Mathlib.Omega.{arith}
use lib.ListN.{length}
use Rattle.meaning.specs.Tree.{Tree}
use Rattle.meaning.specs.Kind.{Kind, Trees, rooted_only}
use Rattle.meaning.specs.Refusals.{table_call_refusals}
use Rattle.meaning.specs.Answer.{accepted, refusal, GraphMemory}
use Rattle.meaning.specs.Calls.{enough, table_read, graph_slices, graph_read}
use Rattle.meaning.proofs.Calls.{Tells, tells-accepted, Line, TableGiven, lent-table-tells}
use Rattle.meaning.proofs.Lent.{Ample, Short, seven, ample, lent-ample}
use Rattle.meaning.proofs.Memory.{given-few, written-length, concluded}
use Rattle.families.specs.Support.{supported, support}
use Rattle.families.specs.Majority.{majority_tree, majority_text}
use Rattle.families.specs.SupportCall.{SupportMemory, support_slices, support_read, support_of, support_call}
use Rattle.families.proofs.Majority.{IsMajority}
use Rattle.families.proofs.Tables.{one_set, table-clades, table-numbers, table-text, table-majority}

-- the trees of the table's text are accepted; a refusal is a line of the table call
pub support-tells : (s : List ℕ) (memory : SupportMemory) → Tells (TableGiven rooted_only s) (Line table_call_refusals s) (support_read s memory)
support-tells s memory = lent-table-tells rooted_only (enough (support_slices memory)) s

-- line 7, before any text is looked at
pub support-seven : (s : List ℕ) (memory : SupportMemory) → Short (support_slices memory) → support_read s memory ≡ refusal 7 0 0
support-seven s memory = seven (support_slices memory) (table_read rooted_only s)

-- where both are lent enough, it reads what the interchange call reads
pub support-table : (s : List ℕ) (memory : SupportMemory) (lists : GraphMemory) → Ample (support_slices memory) → Ample (graph_slices lists) → support_read s memory ≡ graph_read s lists
support-table s memory lists h k = ample (support_slices memory) (table_read rooted_only s) h ∙ sym (ample (graph_slices lists) (table_read rooted_only s) k)

-- what is written of an accepted text fits
pub record Fits (ts : List Tree) (memory : SupportMemory) : Type 0 where
  pub clades-fit : length (supported ts) ≤ length memory.clades
  pub numbers_fit : length (support ts) ≤ length memory.numbers
  pub text-fits : length (majority_text ts) ≤ length memory.text

pub support-fits : (s : List ℕ) (memory : SupportMemory) (table : Trees) → support_read s memory ≡ accepted table → Fits table.trees memory
support-fits s memory table e =
    let ts = table.trees in
    let given = tells-accepted (support-tells s memory) e in
    let room = lent-ample (support_slices memory) (table_read rooted_only s) e in
    record {
      clades-fit = omega (arith, table-clades ts given.good (one_set given) (given-few given), room.0);
      numbers_fit = omega (arith, table-numbers ts given.good (one_set given) (given-few given), room.1.0);
      text-fits = omega (arith, table-text ts given.good (one_set given), room.1.1);
    }

-- each slice keeps its length
pub support-memory : (s : List ℕ) (memory : SupportMemory)
    → (length (support_call s memory).memory.clades ≡ length memory.clades) × (length (support_call s memory).memory.numbers ≡ length memory.numbers)
    × (length (support_call s memory).memory.text ≡ length memory.text)
support-memory s memory =
    concluded
    (λ (m : SupportMemory). (length m.clades ≡ length memory.clades) × (length m.numbers ≡ length memory.numbers) × (length m.text ≡ length memory.text))
    (support_read s memory) memory (λ table. support_of table.trees memory) (refl, refl, refl) (λ table e.
    let ts = table.trees in
    let f = support-fits s memory table e in
    (written-length (supported ts) memory.clades f.clades-fit, written-length (support ts) memory.numbers f.numbers_fit, written-length (majority_text ts) memory.text f.text-fits))

-- the tree written is the majority tree of the trees read
pub support-majority : (s : List ℕ) (memory : SupportMemory) (k : Kind) (t : Tree) (ts : List Tree)
    → support_read s memory ≡ accepted (record { kind = k; trees = t ∷ ts }) → IsMajority (t ∷ ts) (majority_tree (t ∷ ts))
support-majority s memory k t ts e =
    let given = tells-accepted (support-tells s memory) e in
    table-majority t ts given.good (one_set given)
