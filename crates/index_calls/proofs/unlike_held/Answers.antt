-- No tree is held, or the first of them is compared.
use Rattle.std.proofs.Common.{◌≡◌, ◌<◌, sym, ap, subst, ◌∙◌, arith}
use Rattle.std.specs.Prelude.{List}
use Rattle.meaning.specs.Limits.{max_trees}
use Rattle.meaning.specs.Kind.{rooted, rooted_only}
use Rattle.meaning.specs.Reading.{untaken}
use Rattle.held.specs.Kept.{KeepsKind}
use Rattle.held.specs.declared.Tree.{Tree}
use Rattle.holdings.specs.Slots.{Slot}
use Rattle.holdings.specs.Memory.{Shelved}
use Rattle.slots.specs.Records.{tree_in}
use Rattle.index_calls.specs.Added.{first_held}
use Rattle.index_calls.proofs.Firsts.{line-alone, line-beside, FirstKept, first-kept}
use Rattle.index_calls.proofs.unlike_held.Goals.{In-Some}
use Rattle.index_calls.proofs.unlike_held.Goals as goal

-- a tree is held, and the first of them was found
module _ (d : In-Some) {hs : List Slot} (S : Shelved hs d.args.memory.now) where
  first-is : (d.in-Some.first < max_trees) × (d.in-Some.first ≡ first_held hs)
  first-is = d.in-Some.ensures hs S

  inside : first_held hs < max_trees
  inside = omega (arith, first-is)

  kept : (tree : Tree) → tree ≡ tree_in d.args.memory.now d.in-Some.first → (f : FirstKept hs d.args.memory.now)
      → KeepsKind tree (record { kind = rooted; tree = f.tree })
  kept tree e f = subst (λ (r : Tree). KeepsKind r (record { kind = rooted; tree = f.tree })) (sym (e ∙ ap (tree_in d.args.memory.now) first-is.1)) f.keeps

pub invariant_of-slots : goal.invariant_of-slots
invariant_of-slots c = c.requires.0

pub returns-in_default : goal.returns-in_default
returns-in_default c hs x S k = c.untaken.ensures ∙ ap (untaken rooted_only) k.kind ∙ line-alone S.trees x (c.in_default.ensures hs S)

pub tree_at-common-requires : goal.tree_at-common-requires
tree_at-common-requires c = (first-is (goal.at.tree_at-common-requires c).In-Some c.requires.0.shelved).0

pub unlike-requires : goal.unlike-requires
unlike-requires c =
    let d = (goal.at.unlike-requires c).In-Some in
    let S = c.requires.0.shelved in
    let k = kept d S c.tree_at-common.result c.tree_at-common.ensures (first-kept S (inside d S)) in
    (record { topology = _; keeps = k.keeps }, record { topology = _; keeps = c.requires.1.keeps.keeps })

pub returns : goal.returns
returns c hs x S k =
    let d = (goal.at.returns c).In-Some in
    let f = first-kept S (inside d S) in
    c.unlike.ensures (record { kind = rooted; tree = f.tree }) x (kept d S c.tree_at-common.result c.tree_at-common.ensures f) k ∙ line-beside S.trees x f.leads
