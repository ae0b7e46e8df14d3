-- An unrooted tree hung at its smallest label: what the record of a rooting of it gives, turned round and ordered.
-- Assumes nothing.
use mathlib.Core.Path.{◌≡◌, refl, sym, ap, subst, ◌∙◌}
use mathlib.Core.List.{List}
use Prim.Native.Nat.{ℕ, ◌<◌}
use native.Mathlib.Omega.{arith}
use lib.ListN.{length, get_or, set, replicate}
use Rattle.meaning.specs.Limits.{max_nodes}
use Rattle.meaning.specs.Tree.{Tree as Topology, leaf, fork, leaves, Good, canon}
use Rattle.meaning.specs.Kind.{unrooted}
use Rattle.meaning.specs.Unrooted.{hang, spine, turn_round, canon_unrooted}
use Rattle.meaning.proofs.Canon.{canon-good, canon-canonical}
use Rattle.meaning.proofs.Rootings.{hang-good, hang-turned, canon_unrooted-turned}
use Rattle.meaning.proofs.EitherKind.{standing-own}
use Rattle.lent.specs.Runs.{Wrote}
use Rattle.lent.proofs.Runs.{wrote_one}
use Rattle.held.specs.Held.{nodes, byte, pre, Holds, Room, hold}
use Rattle.held.specs.Node.{subtree, Children}
use Rattle.held.specs.declared.node.Node.{Node}
use Rattle.held.specs.Kept.{Keeps, KeepsKind}
use Rattle.held.specs.Turning.{Turning, start, Leftmost, TurnRoom}
use Rattle.held.specs.declared.Kind.TheVariants.{Unrooted}
use Rattle.held.specs.declared.Tree.{Tree}
use Rattle.held.proofs.Laws.{few-nodes, some-nodes, within, holding, wrote-fork}
use Rattle.held.proofs.Turning.{turning-leaves, turning-nodes, turning-round, way-at}
use Rattle.held.proofs.Subtree.{node-holds, node-byte, at-node, children-leaves}
use Rattle.held.proofs.Kept.{keeps-holds, keeps-long}

-- the record with these bytes keeps the unrooted t
abbrev pub Hangs : List ℕ → Topology → Type 0
Hangs node t = KeepsKind (record { node = node; kind = Unrooted }) (record { kind = unrooted; tree = hang t })

module _ {tree : Tree} {t : Topology} (k : Keeps tree t) where
  hung-keeps : {node : List ℕ} → node ≡ hold (canon_unrooted t) → Hangs node t
  hung-keeps e =
      record { kind = refl; keeps = record { good = hang-good k.good; bytes = e }; stands = standing-own unrooted t k.good.distinct }

  turned-good : Good (turn_round (canon t))
  turned-good = subst Good (hang-turned (canon t) (canon-canonical t k.good.distinct)) (hang-good (canon-good k.good))

  -- the root of its bytes
  module _ (root : Node) (at : (root.tree.now ≡ tree.node) × (root.at ≡ 0)) where
    root-is : subtree root ≡ canon t
    root-is = at-node root at (keeps-holds k)

    -- one leaf is hung as it is
    pub hung-leaf : {l : ℕ} → subtree root ≡ leaf l → Hangs tree.node t
    hung-leaf is =
        let one = sym root-is ∙ is in
        hung-keeps (k.bytes ∙ ap hold (one ∙ sym (ap (λ (u : Topology). canon (turn_round u)) one) ∙ sym (canon_unrooted-turned t k.good.distinct)))

    -- the leftmost leaf below a fork
    module _ {first second least : Node} (c : Children root first second) (l : Leftmost first least) where
      least-way : (above : Topology) × Turning (subtree root) least.at (subtree least) above
      least-way = l.way (subtree root) (subtree second) (way-at (omega (arith, c.first_at, at.1)) refl (start (subtree first) (subtree second) c.is))

      least-in : least.tree.now ≡ tree.node
      least-in = l.same ∙ c.first_in ∙ at.0

      pub least-inside : least.at < 127
      least-inside = omega (arith, keeps-long k, subst (λ (xs : List ℕ). least.at < length xs) least-in (within (node-holds least)))

      -- what is above its fork
      pub above-room : TurnRoom root least 127 2
      above-room = record {
        same = l.same ∙ c.first_in;
        start = at.1;
        above = least-way.0;
        way = least-way.1;
        room = omega (arith, turning-nodes least-way.1, ap nodes root-is, few-nodes (canon-good k.good), some-nodes (subtree least));
      }

      -- the root's byte and the leaf are written, and then that
      module _ {v : ℕ} (own : v ≡ byte (subtree root)) {out : List ℕ} {behind : ℕ}
          (wrote : (up : Topology) → Turning (subtree root) least.at (subtree least) up
          → Wrote (pre up) (set (set (replicate max_nodes 0) 0 v) 1 (get_or tree.node least.at 0)) out 2 behind) where
        label-is : get_or tree.node least.at 0 ≡ l.label
        label-is = subst (λ (xs : List ℕ). get_or xs least.at 0 ≡ l.label) least-in (node-byte least ∙ ap byte l.is)

        turned-wrote : Wrote (pre (turn_round (canon t))) (replicate max_nodes 0) out 0 behind
        turned-wrote =
            let label = get_or tree.node least.at 0 in
            let round : turn_round (canon t) ≡ fork (leaf label) least-way.0 =
            ap turn_round (sym root-is) ∙ turning-round least-way.1 ∙ ap (spine least-way.0) (l.is ∙ ap leaf (sym label-is)) in
            rw round
            (wrote-fork (leaf label) least-way.0 (omega (arith, own ∙ ap byte c.is, turning-leaves least-way.1, ap leaves l.is, children-leaves c))
            (wrote_one (set (replicate max_nodes 0) 0 v) 1 label) (wrote least-way.0 least-way.1))

        turned-holds : Holds out 0 (turn_round (canon t))
        turned-holds = rw turned-wrote.cells (holding (turn_round (canon t)) turned-good.small (few-nodes turned-good))

        pub turned-room : Room nodes out 0 max_nodes
        turned-room = record { tree = turn_round (canon t); holds = turned-holds; room = few-nodes turned-good }

        pub hung-fork : {node : List ℕ} → ((u : Topology) → Holds out 0 u → node ≡ hold (canon u)) → Hangs node t
        hung-fork gives = hung-keeps (gives (turn_round (canon t)) turned-holds ∙ ap hold (sym (canon_unrooted-turned t k.good.distinct)))
