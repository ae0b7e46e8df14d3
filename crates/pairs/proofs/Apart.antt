-- Lemma 2.2 for held trees: the trees of two topologies are one move apart exactly when they differ and share a forest; with the number of forests that are compared.
-- Assumes nothing.
use mathlib.Core.Path.{◌≡◌, sym, ap, ◌∙◌}
use mathlib.Core.Logic.{◌↔◌}
use mathlib.Core.Bool.{false}
use Prim.Native.Nat.{ℕ, ◌<◌}
use lib.ListN.{length}
use Rattle.meaning.specs.Tree.{Tree, Good, Distinct, SameTopology, canon}
use Rattle.meaning.specs.Move.{OneMove, Apart, Cut, cuts}
use Rattle.meaning.proofs.Canon.{canon-canonical, canonical-canon, topology-iff-canon}
use Rattle.meaning.proofs.Forests.{move-canon, canon-move}
use Rattle.meaning.proofs.Lists.{number}
use Rattle.meaning.proofs.Moves.{IsCut, prune-cut}
use Rattle.meaning.proofs.Compared.{compared_same, compared-differ}
use Rattle.lent.proofs.Says.{says}
use Rattle.held.specs.Held.{cut_in}
use Rattle.held.proofs.Cut.{cut-is, canonical-pruned}
use Rattle.pairs.specs.Pair.{SharesForest, Searched, Tested}
use Rattle.pairs.specs.declared.Comparison.{Comparison}

-- a cut's number
numbered-cut : (t : Tree) {k : Cut} → IsCut t k → (c : ℕ) × (c < length (cuts t)) × (cut_in t c ≡ k)
numbered-cut t p = number (record { rest = t; pruned = t }) (prune-cut p)

-- what is pruned of a canonical tree is canonical
pruned-canon : (t : Tree) → Distinct t → {c : ℕ} → c < length (cuts (canon t)) → canon (cut_in (canon t) c).pruned ≡ (cut_in (canon t) c).pruned
pruned-canon t D {c} lt = canonical-canon (cut_in (canon t) c).pruned (canonical-pruned (canon t) c lt (canon-canonical t D))

module _ {t u : Tree} (G : Good t) (H : Good u) where
  abbrev D : Distinct t
  D = G.distinct

  abbrev E : Distinct u
  E = H.distinct

  pub share-move : SharesForest (canon t) (canon u) → OneMove t u
  share-move s =
      canon-move D
      (record {
        one = cut_in (canon t) s.one;
        two = cut_in (canon u) s.two;
        is_cut = cut-is (canon t) s.one s.is_cut;
        is-cut' = cut-is (canon u) s.two s.is-cut';
        agree = (s.agree.rest, ap canon s.agree.pruned);
      })

  pub move-share : OneMove t u → SharesForest (canon t) (canon u)
  move-share m =
      let k = move-canon D E m in
      let (c, lt, e) = numbered-cut (canon t) k.is_cut in
      let (d, lt', e') = numbered-cut (canon u) k.is-cut' in
      record {
        one = c;
        two = d;
        is_cut = lt;
        is-cut' = lt';
        agree =
            record {
              pruned =
                  sym (pruned-canon t D lt) ∙ ap (λ (x : Cut). canon x.pruned) e ∙ k.agree.1
                  ∙ sym (ap (λ (x : Cut). canon x.pruned) e') ∙ pruned-canon u E lt';
              rest = ap (λ (x : Cut). canon x.rest) e ∙ k.agree.0 ∙ sym (ap (λ (x : Cut). canon x.rest) e');
            };
      }

  same-iff : SameTopology t u ↔ (canon t ≡ canon u)
  same-iff = topology-iff-canon D E

  -- trees of one topology are not apart, and no forest is compared
  pub tested-same : canon t ≡ canon u → Tested t u (record { yes = false; forests = 0 })
  tested-same e = record { apart = λ a. a.0 (same-iff.1 e); number = sym (compared_same D E (same-iff.1 e)) }

  -- those of two are where they share a forest, and what was counted is the number
  pub tested : ¬ (canon t ≡ canon u) → (r : Comparison) → Searched (canon t) (canon u) r → Tested t u r
  tested differ r s = record {
    apart = says (SharesForest (canon t) (canon u)) (Apart t u) (λ f. (λ e. differ (same-iff.0 e), share-move f)) (λ a. move-share a.1) r.yes s.shares;
    number = s.number ∙ sym (compared-differ D E (λ e. differ (same-iff.0 e)));
  }
