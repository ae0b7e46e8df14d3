-- The calls over a text whose labels are replaced one to one: the same outcome, answer and every lent cell.
-- Assumes nothing.
use mathlib.Core.Path.{◌≡◌, refl, sym, ap, ap₂, subst, subst₂, ◌∙◌}
use mathlib.Core.Bool.{Bool, true, false}
use mathlib.Core.List.{List}
use Prim.Native.Nat.{ℕ}
use native.Mathlib.Omega.{arith}
use lib.ListN.{length, get_or}
use Rattle.meaning.specs.Tree.{Tree}
use Rattle.meaning.specs.Interchange.{OneInterchange}
use Rattle.meaning.specs.Kind.{Kind, Trees, either, rooted_only}
use Rattle.meaning.specs.EitherKind.{ApartAs}
use Rattle.meaning.specs.Listing.{Pair, Listing, flat, counts}
use Rattle.meaning.specs.Islands.{Joined, Island}
use Rattle.meaning.specs.Copies.{Choice, merged, LinkedBy, MergedIslands}
use Rattle.meaning.specs.Answer.{Answer, accepted, refusal, Outcome, GraphSize, GraphMemory, FirstsMemory, IslandsMemory, written}
use Rattle.meaning.specs.Calls.{enough, lent, table_read, graph_slices, Lists, lists, firsts_slices, firsts_read, firsts_graph_of, InterchangeCall, ChoosingCall, islands_slices, islands_read, island_graph_of, IslandsCall, numbers}
use Rattle.meaning.specs.IslandSheet.{shows_islands, IslandSheet, island_lines}
use Rattle.meaning.specs.Sheet.{prints, Printout}
use Rattle.meaning.proofs.MergedIslands.{merged-unique}
use Rattle.meaning.proofs.Calls.{tells-accepted, table-tells}
use Rattle.meaning.proofs.Determined.{same-accepted, not-both, same-refusal}
use Rattle.renaming.specs.Renaming.{rename_text, Rule}
use Rattle.renaming.proofs.Sample.{OfTopologies, interchanges-so}
use Rattle.renaming.proofs.Outcomes.{has_listed}
use Rattle.renaming.proofs.Calls.{given-rooted}
use Rattle.renaming.proofs.Renaming.{sample, same_first, same-listing, same-interchanges, same_left}

-- a call that refuses leaves the memory as it was
has-refused : {M : Type 0} {read : Answer Trees} {Linked : Trees → ℕ → ℕ → Type 0} {left : List Tree → List Pair → Outcome GraphSize M} {memory : M} {o : Outcome GraphSize M} {n i p : ℕ}
    → read ≡ refusal n i p → Lists read Linked left memory o → o ≡ record { answer = refusal n i p; memory = memory }
has-refused e (lists t ps h L) = absurd (not-both h e)
has-refused e (Lists.refuses n i p h) = let (x, y, z) = same-refusal h e in cc

-- two tables that are accepted, and whose listings leave the same, have the same outcome, whatever memory is lent
same_outcome : {M : Type 0} (b : Bool) {a a' : Answer Trees} {table table' : Trees} {Linked : Trees → ℕ → ℕ → Type 0}
    {left : List Tree → List Pair → Outcome GraphSize M} {memory : M} {o o' : Outcome GraphSize M}
    → a ≡ accepted table → a' ≡ accepted table'
    → ((ps qs : List Pair) → Listing (length table.trees) (Linked table) ps → Listing (length table'.trees) (Linked table') qs → left table.trees ps ≡ left table'.trees qs)
    → Lists (lent b a) Linked left memory o → Lists (lent b a') Linked left memory o' → o ≡ o'
same_outcome true e e' same c c' =
    let (ps, x, P) = has_listed e c in
    let (qs, y, Q) = has_listed e' c' in
    x ∙ same ps qs P Q ∙ sym y
same_outcome false e e' same c c' = has-refused refl c ∙ sym (has-refused refl c')

-- the merged pairs of a table, and its islands' numbers
abbrev pub Merged : Trees → List Pair → List ℕ → Type 0
Merged table ps ms = Listing (length table.trees) (LinkedBy merged (ApartAs table.kind) table.trees) ps × MergedIslands table.trees ps ms

pub has-numbered : {s : List ℕ} {memory : IslandsMemory} {o : Outcome GraphSize IslandsMemory} {table : Trees} → islands_read s memory ≡ accepted table → IslandsCall s memory o
    → (ps : List Pair) × (ms : List ℕ) × (o ≡ island_graph_of table.trees ps ms memory) × Merged table ps ms
has-numbered {memory} e (numbers t ps ms h L I) =
    let x = same-accepted h e in
    (ps, ms, ap (λ (v : Trees). island_graph_of v.trees ps ms memory) x, subst (λ (v : Trees). Merged v ps ms) x (L, I))
has-numbered e (IslandsCall.refuses n i p h) = absurd (not-both e h)

has-not-numbered : {s : List ℕ} {memory : IslandsMemory} {o : Outcome GraphSize IslandsMemory} {n i p : ℕ} → islands_read s memory ≡ refusal n i p → IslandsCall s memory o
    → o ≡ record { answer = refusal n i p; memory = memory }
has-not-numbered e (numbers t ps ms h L I) = absurd (not-both h e)
has-not-numbered e (IslandsCall.refuses n i p h) = let (x, y, z) = same-refusal h e in cc

pub has-shown : {s x : List ℕ} {table : Trees} → table_read either s ≡ accepted table → IslandSheet s x → (ps : List Pair) × (ms : List ℕ) × (x ≡ island_lines ms) × Merged table ps ms
has-shown e (prints t x h (shows_islands ps ms L I)) = (ps, ms, refl, subst (λ (v : Trees). Merged v ps ms) (same-accepted h e) (L, I))
has-shown e (Printout.refuses n i p h) = absurd (not-both e h)

-- a rule for the labels of a table whose text is accepted, and the new text is accepted too
module _ (f : ℕ → ℕ) (s : List ℕ) {table table' : Trees} (e : table_read either s ≡ accepted table) (e' : table_read either (rename_text f s) ≡ accepted table') (r : Rule f table.trees) where
  -- the graph call, with copies kept apart or merged
  pub renamed-same : (choice : Choice) {memory : FirstsMemory} {o o' : Outcome GraphSize FirstsMemory} → ChoosingCall choice s memory o → ChoosingCall choice (rename_text f s) memory o' → o ≡ o'
  renamed-same choice {memory} c c' =
      same_outcome (enough (firsts_slices memory)) e e'
      (λ ps qs P Q.
      let same = same-listing either f s e e' r choice P Q in
      sym (ap (λ (rs : List Pair). firsts_graph_of table'.trees rs memory) same ∙ same_left either f s e e' r ps memory)) c c'

  -- whatever memory is lent to each: the same pairs, counts and firsts are written
  pub renamed-written : (choice : Choice) {memory memory' : FirstsMemory} {o o' : Outcome GraphSize FirstsMemory} → enough (firsts_slices memory) ≡ true → enough (firsts_slices memory') ≡ true
      → ChoosingCall choice s memory o → ChoosingCall choice (rename_text f s) memory' o'
      → (ps : List Pair) × (o ≡ firsts_graph_of table.trees ps memory) × (o' ≡ firsts_graph_of table.trees ps memory')
  renamed-written choice {memory} {memory'} room room' c c' =
      let read : firsts_read s memory ≡ accepted table = rw room e in
      let read' : firsts_read (rename_text f s) memory' ≡ accepted table' = rw room' e' in
      let (ps, x, P) = has_listed read c in
      let (qs, y, Q) = has_listed read' c' in
      let same = same-listing either f s e e' r choice P Q in
      (ps, x, y ∙ ap (λ (rs : List Pair). firsts_graph_of table'.trees rs memory') same ∙ same_left either f s e e' r ps memory')

  -- the islands' numbers are the same
  same_numbers : {ps qs : List Pair} {ms ns : List ℕ} → qs ≡ ps → MergedIslands table.trees ps ms → MergedIslands table'.trees qs ns → ns ≡ ms
  same_numbers {ps} {qs} {ms} {ns} same I J =
      let many = (sample either f s e e' r).as_many in
      let K : MergedIslands table.trees ps ns = record {
        many = J.many ∙ many;
        number = λ i h. subst₂ (λ (rs : List Pair) (x : ℕ). Island (Joined rs) x (get_or ns i 0)) same (same_first either f s e e' r i h) (J.number i (omega (arith, many)));
      } in
      merged-unique K I

  -- the islands call
  same-island-graph : {ps qs : List Pair} {ms ns : List ℕ} → Merged table ps ms → Merged table' qs ns → (memory : IslandsMemory)
      → island_graph_of table.trees ps ms memory ≡ island_graph_of table'.trees qs ns memory
  same-island-graph {ps} {qs} {ms} {ns} a b memory =
      let same = same-listing either f s e e' r merged a.0 b.0 in
      let numbers = same_numbers same a.1 b.1 in
      sym (ap₂ (λ (rs : List Pair) (xs : List ℕ). island_graph_of table'.trees rs xs memory) same numbers
      ∙ ap (λ (g : Outcome GraphSize FirstsMemory). record { answer = g.answer; memory = record { lists = g.memory; islands = written ms memory.islands } })
      (same_left either f s e e' r ps memory.lists))

  pub renamed-islands : {memory : IslandsMemory} {o o' : Outcome GraphSize IslandsMemory} → IslandsCall s memory o → IslandsCall (rename_text f s) memory o' → o ≡ o'
  renamed-islands {memory} {o} {o'} c c' = by (enough (islands_slices memory)) refl
    where
      by : (b : Bool) → enough (islands_slices memory) ≡ b → o ≡ o'
      by true room =
          let read : islands_read s memory ≡ accepted table = rw room e in
          let read' : islands_read (rename_text f s) memory ≡ accepted table' = rw room e' in
          let (ps, ms, x, a) = has-numbered read c in
          let (qs, ns, y, b) = has-numbered read' c' in
          x ∙ same-island-graph a b memory ∙ sym y
      by false room =
          let x : islands_read s memory ≡ refusal 7 0 0 = rw room in
          let y : islands_read (rename_text f s) memory ≡ refusal 7 0 0 = rw room in
          has-not-numbered x c ∙ sym (has-not-numbered y c')

  -- what the islands program prints
  pub renamed-island-sheet : {x x' : List ℕ} → IslandSheet s x → IslandSheet (rename_text f s) x' → x ≡ x'
  renamed-island-sheet p p' =
      let (ps, ms, x, a) = has-shown e p in
      let (qs, ns, y, b) = has-shown e' p' in
      x ∙ sym (ap island_lines (same_numbers (same-listing either f s e e' r merged a.0 b.0) a.1 b.1)) ∙ sym y

-- the interchange call
pub renamed-interchanges : (f : ℕ → ℕ) (s : List ℕ) {table table' : Trees} → table_read rooted_only s ≡ accepted table → table_read rooted_only (rename_text f s) ≡ accepted table'
    → Rule f table.trees
    → {memory : GraphMemory} {o o' : Outcome GraphSize GraphMemory} → InterchangeCall s memory o → InterchangeCall (rename_text f s) memory o' → o ≡ o'
renamed-interchanges f s {table} {table'} e e' r {memory} c c' =
    let k = given-rooted (tells-accepted (table-tells rooted_only s) e) in
    let O = subst (λ (j : Kind). OfTopologies j OneInterchange) (sym k) interchanges-so in
    same_outcome (enough (graph_slices memory)) e e'
    (λ ps qs P Q.
    let same = same-interchanges rooted_only f s e e' r O P Q in
    let many = (sample rooted_only f s e e' r).as_many in
    sym (ap₂ (λ (n : ℕ) (rs : List Pair). record {
      answer = accepted (record { trees = n; pairs = length rs });
      memory = record { pairs = written (flat rs) memory.pairs; counts = written (counts n rs) memory.counts };
    }) many same)) c c'
