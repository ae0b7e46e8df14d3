-- One unrooted move, said of the rooted trees that stand for the unrooted ones: it is the unrooted move, and hangs on their topologies only.
-- Assumes nothing.
use mathlib.Core.Path.{◌≡◌, sym, subst₂}
use mathlib.Core.Logic.{◌↔◌, inl, inr}
use mathlib.Core.Bool.{Bool}
use Rattle.meaning.specs.Tree.{Tree, Distinct, SameTopology, canon}
use Rattle.meaning.specs.Move.{Apart}
use Rattle.meaning.specs.Unrooted.{Respun, here, hang, canon_unrooted, ApartU}
use Rattle.meaning.proofs.Logic.{iff-then}
use Rattle.meaning.proofs.Same.{topology-sym}
use Rattle.meaning.proofs.Canon.{topology-iff-canon}
use Rattle.meaning.proofs.Copies.{OnTopologies, moves-on}
use Rattle.meaning.proofs.Splits.{splits-sym}
use Rattle.meaning.proofs.Rootings.{hang-distinct}
use Rattle.meaning.proofs.Respun.{apart-iff-hung}
use Rattle.lent.specs.Runs.{Says}
use Rattle.lent.proofs.Says.{says}
use Rattle.unrooted.specs.Apart.{OtherRoot, ApartHung}

-- ---- topologies
respun-sym : {t u : Tree} → Respun t u → Respun u t
respun-sym (here h) = here (splits-sym h)
respun-sym (Respun.in_first k) = Respun.in_first (respun-sym k)
respun-sym (Respun.in_second k) = Respun.in_second (respun-sym k)

turns : (t u : Tree) → Distinct t → Distinct u → ApartHung t u → ApartHung u t
turns t u D E (inl a) = inl (moves-on.turns t u D E a)
turns t u D E (inr o) = inr (λ e. o.0 (sym e), respun-sym o.1)

same : (t t' u u' : Tree) → Distinct t → Distinct t' → Distinct u → Distinct u' → SameTopology t t' → SameTopology u u' → ApartHung t u → ApartHung t' u'
same t t' u u' D D' E E' e f (inl a) = inl (moves-on.same t t' u u' D D' E E' e f a)
same t t' u u' D D' E E' e f (inr o) = inr (subst₂ OtherRoot ((topology-iff-canon D D').0 e) ((topology-iff-canon E E').0 f) o)

differ : (t u : Tree) → Distinct t → Distinct u → ApartHung t u → ¬ SameTopology t u
differ t u D E (inl a) = moves-on.differ t u D E a
differ t u D E (inr o) = λ e. o.0 ((topology-iff-canon D E).0 e)

pub unrooted-moves-on : OnTopologies ApartHung
unrooted-moves-on = record { turns = turns; same = same; differ = differ }

-- ---- the unrooted move
module _ {t u : Tree} (D : Distinct t) (E : Distinct u) where
  -- of trees that are hung from their smallest label
  pub hung-iff : ApartU t u ↔ ApartHung (hang t) (hang u)
  hung-iff = apart-iff-hung D E

  -- and of trees that hang so as they are
  pub standing-iff : canon_unrooted t ≡ canon t → canon_unrooted u ≡ canon u → ApartU t u ↔ ApartHung t u
  standing-iff e f =
      let D' = hang-distinct t D in
      let E' = hang-distinct u E in
      let g = (topology-iff-canon D' D).1 e in
      let h = (topology-iff-canon E' E).1 f in
      iff-then hung-iff (same (hang t) t (hang u) u D' D E' E g h, same t (hang t) u (hang u) D D' E E' (topology-sym g) (topology-sym h))

-- ---- the two tests
pub either-says : (t u : Tree) → ¬ OtherRoot (canon t) (canon u) → (d : Bool) → Says d (Apart t u) → Says d (ApartHung t u)
either-says t u n = says (Apart t u) (ApartHung t u) inl rooted
  where
    rooted : ApartHung t u → Apart t u
    rooted (inl a) = a
    rooted (inr o) = absurd (n o)
