-- What calls that list pairs write for a table whose trees are put in another order.
-- Assumes nothing.
use mathlib.Core.Path.{◌≡◌, refl, sym, ap, subst, ◌∙◌}
use mathlib.Core.Logic.{◌↔◌}
use mathlib.Core.Bool.{Bool, true, false}
use mathlib.Core.List.{List}
use Prim.Native.Nat.{ℕ}
use native.Mathlib.Omega.{arith}
use lib.ListN.{length}
use Rattle.meaning.specs.Tree.{Tree}
use Rattle.meaning.specs.Kind.{Trees}
use Rattle.meaning.specs.Listing.{Pair, Listing}
use Rattle.meaning.specs.Islands.{Joined}
use Rattle.meaning.specs.Answer.{Answer, accepted, Outcome, GraphSize, GraphMemory}
use Rattle.meaning.specs.Calls.{lent, graph_of, Lists, lists}
use Rattle.meaning.proofs.Logic.{clash}
use Rattle.meaning.proofs.Determined.{same-accepted, not-both}
use Rattle.renaming.specs.Reordering.{came}
use Rattle.renaming.specs.Outcomes.{ListedPair, SamePairs}
use Rattle.renaming.proofs.Orders.{came-inside}
use Rattle.renaming.proofs.MovedPairs.{Carried, joined-moved, neighbours-moved, pairs-moved}
use Rattle.renaming.proofs.Cells.{listed-iff, count-iff}

-- what is accepted with lent memory is accepted without
pub lent-read : {A : Type 0} (b : Bool) {a : Answer A} {x : A} → lent b a ≡ accepted x → a ≡ accepted x
lent-read true e = e
lent-read false e = clash cc

-- where one answer is accepted, so is another that is
pub lent_alike : {A : Type 0} (b : Bool) (a c : Answer A) {x y : A} → lent b a ≡ accepted x → c ≡ accepted y → lent b c ≡ accepted y
lent_alike true a c e h = h
lent_alike false a c e h = clash cc

-- a call that accepts has listed the linked positions
pub has_listed : {M : Type 0} {read : Answer Trees} {Linked : Trees → ℕ → ℕ → Type 0} {left : List Tree → List Pair → Outcome GraphSize M} {memory : M} {o : Outcome GraphSize M} {table : Trees}
    → read ≡ accepted table → Lists read Linked left memory o → (ps : List Pair) × (o ≡ left table.trees ps) × Listing (length table.trees) (Linked table) ps
has_listed {Linked} {left} e (lists t ps h L) =
    let x = same-accepted h e in
    (ps, ap (λ (v : Trees). left v.trees ps) x, subst (λ (v : Trees). Listing (length v.trees) (Linked v) ps) x L)
has_listed e (Lists.refuses n i p h) = absurd (not-both e h)

module _ (ts us : List Tree) (many : length us ≡ length ts) {order : List ℕ} {L L' : ℕ → ℕ → Type 0}
    (C : Carried (length ts) order L L') {ps qs : List Pair} (P : Listing (length ts) L ps) (Q : Listing (length ts) L' qs) where
  -- the pairs and the counts that are written go with the trees
  pub pairs-written : (memory memory' : GraphMemory) → let before = graph_of ts ps memory in let after = graph_of us qs memory' in
      SamePairs order before.answer after.answer before.memory after.memory
  pairs-written memory memory' =
      let as_many = pairs-moved C P Q in
      let before = (graph_of ts ps memory).memory in
      let after = (graph_of us qs memory').memory in
      record {
        size = record { trees = length ts; pairs = length ps };
        before = refl;
        after = λ x. accepted (record { trees = many x; pairs = as_many x });
        pairs = λ i j h l.
            let a = subst (λ (n : ℕ). ListedPair (record { trees = length ts; pairs = n }) after i j ↔ Joined qs i j) as_many (listed-iff qs (length ts) after memory'.pairs refl i j) in
            let b = listed-iff ps (length ts) before memory.pairs refl (came order i) (came order j) in
            let c = joined-moved C P Q i j h l in
            (λ m. b.1 (c.0 (a.0 m)), λ m. a.1 (c.1 (b.0 m)));
        counts = λ i h.
            count-iff (length us) qs memory'.counts i (omega (arith, many))
            ∙ neighbours-moved C P Q i h
            ∙ sym (count-iff (length ts) ps memory.counts (came order i) (came-inside C.placed i h));
      }
