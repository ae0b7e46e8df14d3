-- A text whose labels are replaced one to one: each call that lists pairs gives the same outcome, answer and every lent cell.
-- Assumes nothing.
use mathlib.Core.Path.{◌≡◌, sym, ap₂, subst, subst₂, ◌∙◌}
use mathlib.Core.Logic.{◌↔◌}
use mathlib.Core.List.{List}
use Prim.Native.Nat.{ℕ, ◌<◌}
use native.Mathlib.Omega.{arith}
use lib.Dec.{T}
use lib.ListN.{length}
use Rattle.meaning.specs.Tree.{Tree}
use Rattle.meaning.specs.Interchange.{OneInterchange}
use Rattle.meaning.specs.Kind.{Kind, Trees, Takes}
use Rattle.meaning.specs.EitherKind.{ApartAs}
use Rattle.meaning.specs.Lists.{positions}
use Rattle.meaning.specs.Listing.{Pair, Listing, At, copy_of, flat, counts}
use Rattle.meaning.specs.Copies.{first_of, firsts_of, Choice, merged, kept_apart, LinkedBy}
use Rattle.meaning.specs.Answer.{accepted, FirstsMemory, written}
use Rattle.meaning.specs.Calls.{table_read, firsts_graph_of}
use Rattle.meaning.proofs.EitherKind.{AllStand}
use Rattle.meaning.proofs.Listing.{listing-iff, listing-unique}
use Rattle.meaning.proofs.Stands.{given-stand}
use Rattle.meaning.proofs.Calls.{tells-accepted, TableGiven, table-tells}
use Rattle.renaming.specs.Renaming.{rename_text, Rule}
use Rattle.renaming.specs.Reordering.{SameSample}
use Rattle.renaming.proofs.Orders.{position_at}
use Rattle.renaming.proofs.Sample.{OfTopologies, moves_so, carried, copies-moved}
use Rattle.renaming.proofs.Firsts.{first-same, firsts_same}
use Rattle.renaming.proofs.RenamedRead.{read-renamed}
use Rattle.renaming.proofs.TwoTables.{renamed-sample}
use Rattle.renaming.proofs.Calls.{listing-as}

-- a rule for the labels of a table that is read from s, and the table that is read from the new text
module _ (takes : Takes) (f : ℕ → ℕ) (s : List ℕ) {table table' : Trees} (e : table_read takes s ≡ accepted table)
    (e' : table_read takes (rename_text f s) ≡ accepted table') (r : Rule f table.trees) where
  abbrev ts : List Tree
  ts = table.trees

  abbrev us : List Tree
  us = table'.trees

  given : TableGiven takes s table
  given = tells-accepted (table-tells takes s) e

  given' : TableGiven takes (rename_text f s) table'
  given' = tells-accepted (table-tells takes (rename_text f s)) e'

  pub sample : SameSample f (positions (length table.trees)) table table'
  sample = renamed-sample r (read-renamed takes f s e r e')

  -- the same positions are related
  module _ {R : Tree → Tree → Type 0} (O : OfTopologies table.kind R) where
    pub related : (i j : ℕ) → i < length ts → j < length ts → At R us i j ↔ At R ts i j
    related i j h l = subst₂ (λ (x y : ℕ). At R us i j ↔ At R ts x y) (position_at (length ts) i h) (position_at (length ts) j l) ((carried sample given.good given'.good O).agree i j h l)

  -- the same are copies
  pub same-copies : (i j : ℕ) → i < length ts → j < length ts → T (copy_of us i j) ↔ T (copy_of ts i j)
  same-copies i j h l =
      let stand : AllStand table.kind us = subst (λ (k : Kind). AllStand k us) sample.kind (given-stand given') in
      subst₂ (λ (x y : ℕ). T (copy_of us i j) ↔ T (copy_of ts x y)) (position_at (length ts) i h) (position_at (length ts) j l)
      (copies-moved sample given.good given'.good (given-stand given) stand i j h l)

  -- with the same firsts
  pub same_first : (i : ℕ) → i < length ts → first_of us i ≡ first_of ts i
  same_first = first-same ts us sample.as_many same-copies

  pub same-firsts : firsts_of us ≡ firsts_of ts
  same-firsts = firsts_same ts us sample.as_many same-copies

  linked : (choice : Choice) (i j : ℕ) → i < length ts → j < length ts → LinkedBy choice (ApartAs table.kind) us i j ↔ LinkedBy choice (ApartAs table.kind) ts i j
  linked kept_apart i j h l = related (moves_so table.kind) i j h l
  linked merged i j h l =
      let a = related (moves_so table.kind) i j h l in
      let x = same_first i h in
      let y = same_first j l in
      (λ m. (sym x ∙ m.0, sym y ∙ m.1, a.0 m.2), λ m. (x ∙ m.0, y ∙ m.1, a.1 m.2))

  -- so they have the same listing
  pub same-listing : (choice : Choice) {ps qs : List Pair} → Listing (length ts) (LinkedBy choice (ApartAs table.kind) ts) ps
      → Listing (length us) (LinkedBy choice (ApartAs table'.kind) us) qs → qs ≡ ps
  same-listing choice P Q =
      let M = listing-as choice us sample.kind sample.as_many Q in
      listing-unique (listing-iff (λ i j h l. linked choice i j (omega arith) l) M) P

  pub same-interchanges : OfTopologies table.kind OneInterchange → {ps qs : List Pair} → Listing (length ts) (At OneInterchange ts) ps → Listing (length us) (At OneInterchange us) qs → qs ≡ ps
  same-interchanges O {qs} P Q =
      let M : Listing (length ts) (At OneInterchange us) qs = subst (λ (n : ℕ). Listing n (At OneInterchange us) qs) sample.as_many Q in
      listing-unique (listing-iff (λ i j h l. related O i j (omega arith) l) M) P

  -- what the trees leave hangs on their number and firsts only
  pub same_left : (ps : List Pair) (memory : FirstsMemory) → firsts_graph_of us ps memory ≡ firsts_graph_of ts ps memory
  same_left ps memory =
      ap₂ (λ (n : ℕ) (fs : List ℕ). record {
        answer = accepted (record { trees = n; pairs = length ps });
        memory = record { graph = record { pairs = written (flat ps) memory.graph.pairs; counts = written (counts n ps) memory.graph.counts }; firsts = written fs memory.firsts };
      }) sample.as_many same-firsts
