-- The clades of a table's trees, tree by tree in one array.
-- Assumes nothing.
use mathlib.Core.Path.{◌≡◌, refl, sym, ap, ap₂, ◌∙◌}
use mathlib.Core.List.{List, [], ◌++◌, append_assoc, append-nil}
use Prim.Native.Nat.{ℕ, ◌+◌, ◌*◌, ◌≤◌, ◌<◌}
use native.Mathlib.Numerals.{add-one}
use native.Mathlib.Omega.{arith}
use lib.ListN.{length, get_or, drop, drop_of_length-le}
use lib.Seq.{drop-cons}
use Rattle.meaning.specs.Tree.{Tree, leaf, Good}
use Rattle.meaning.proofs.Length.{leaves-64}
use Rattle.lent.specs.Runs.{Wrote}
use Rattle.lent.proofs.Runs.{wrote-more}
use Rattle.families.specs.Clades.{clades}
use Rattle.families.specs.Support.{pooled}
use Rattle.families.proofs.Clades.{clades-length}

-- the clades of the first i trees are gathered
pub record Gathering (ts : List Tree) (xs xs' : List ℕ) (next i : ℕ) : Type 0 where
  pub inside : i ≤ length ts
  pub few : next ≤ i * 63
  pub done : List ℕ
  pub wrote : Wrote done xs xs' 0 next
  pub same : done ++ pooled (drop i ts) ≡ pooled ts

pub gathering-none : (ts : List Tree) (xs : List ℕ) → Gathering ts xs xs 0 0
gathering-none ts xs = record { inside = omega arith; few = omega arith; done = []; wrote = record { behind = omega arith; cells = refl }; same = refl }

module _ {ts : List Tree} {xs xs' : List ℕ} {next i : ℕ} (G : Gathering ts xs xs' next i) where
  next-pooled : {t : Tree} → i < length ts → get_or ts i (leaf 0) ≡ t → clades t ++ pooled (drop (i + 1) ts) ≡ pooled (drop i ts)
  unfolding pooled
  next-pooled {t} lt e = sym (ap pooled (drop-cons ts i (leaf 0) lt) ∙ ap₂ (λ (s : Tree) (n : ℕ). clades s ++ pooled (drop n ts)) e (sym (add-one i)))

  none-pooled : length ts ≤ i → pooled (drop i ts) ≡ []
  unfolding pooled
  none-pooled all = ap pooled (drop_of_length-le ts all)

  pub gathering-more : {t : Tree} {xs'' : List ℕ} {r : ℕ} → i < length ts → get_or ts i (leaf 0) ≡ t → Good t → Wrote (clades t) xs' xs'' next r → Gathering ts xs xs'' r (i + 1)
  gathering-more {t} {xs''} {r} lt e good w = record {
    inside = omega arith;
    few = omega (arith, G.few, w.behind, clades-length t, leaves-64 good);
    done = G.done ++ clades t;
    wrote = wrote-more G.wrote w;
    same = append_assoc G.done (clades t) (pooled (drop (i + 1) ts)) ∙ ap (λ (l : List ℕ). G.done ++ l) (next-pooled lt e) ∙ G.same;
  }

  pub gathering-all : length ts ≤ i → Wrote (pooled ts) xs xs' 0 next
  gathering-all all =
      let whole : G.done ≡ pooled ts = sym (append-nil G.done) ∙ ap (λ (l : List ℕ). G.done ++ l) (sym (none-pooled all)) ∙ G.same in
      rw (← whole) G.wrote
