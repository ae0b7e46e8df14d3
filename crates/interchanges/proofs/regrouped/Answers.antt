-- One of the four tests says yes exactly where either child is the parent, in the one tree and in the other.
use Rattle.std.proofs.Common.{◌⊎◌}
use Rattle.lent.specs.Runs.{Says}
use Rattle.lent.proofs.Says.{said, denied, affirm, either_first, either_second}
use Rattle.held.specs.Node.{subtree}
use Rattle.interchanges.specs.Interchanged.{Regrafted, Regrouped}
use Rattle.interchanges.proofs.Parts.{FirstThree, three-regrouped, fourth-says}
use Rattle.interchanges.proofs.regrouped.Goals.{Joined-regrafted-2, then-regrafted, else-regrafted, then-regrafted-2, else-regrafted-2}
use Rattle.interchanges.proofs.regrouped.Goals as goal

-- what the first three say
abbrev Three : Joined-regrafted-2 → Type 0
Three c = let f = c.in-Fork-Fork in FirstThree (subtree f.a) (subtree f.b) (subtree f.c) (subtree f.d)

three : (c : Joined-regrafted-2) → Says c.if-regrafted-2.value (Three c)
three c =
    let f = c.in-Fork-Fork in
    let A = Regrafted (subtree f.a) (subtree f.b) (subtree f.c) (subtree f.d) in
    let B = Regrafted (subtree f.a) (subtree f.b) (subtree f.d) (subtree f.c) in
    let C = Regrafted (subtree f.b) (subtree f.a) (subtree f.c) (subtree f.d) in
    let two : Says c.if-regrafted.value (A ⊎ B) = elim c.if-regrafted.branch [
      | then-regrafted w ↦ either_first A B c.regrafted.ensures w.if-regrafted.true w.value-is
      | else-regrafted w ↦ either_second A B c.regrafted.ensures w.if-regrafted.false w.value-is w.regrafted-else-regrafted.ensures
    ] in
    elim c.if-regrafted-2.branch [
      | then-regrafted-2 w ↦ either_first (A ⊎ B) C two w.if-regrafted-2.true w.value-is
      | else-regrafted-2 w ↦ either_second (A ⊎ B) C two w.if-regrafted-2.false w.value-is w.regrafted-else-regrafted-2.ensures
    ]

pub returns-then-regrafted-3 : goal.returns-then-regrafted-3
returns-then-regrafted-3 c =
    let at = (goal.at.returns-then-regrafted-3 c).Joined-regrafted-2 in
    let yes-first = said (Three at) c.if-regrafted-3.true (three at) in
    affirm (Regrouped (subtree c.args.x) (subtree c.args.y)) c.if-regrafted-3.true (three-regrouped c.in-Fork-Fork.ensures.is c.in-Fork-Fork.ensures'.is yes-first)

pub returns-else-regrafted-3 : goal.returns-else-regrafted-3
returns-else-regrafted-3 c =
    let at = (goal.at.returns-else-regrafted-3 c).Joined-regrafted-2 in
    let none = denied (Three at) c.if-regrafted-3.false (three at) in
    fourth-says c.in-Fork-Fork.ensures.is c.in-Fork-Fork.ensures'.is none c.regrafted-else-regrafted-3.result c.regrafted-else-regrafted-3.ensures
