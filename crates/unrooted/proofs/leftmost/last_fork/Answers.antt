-- As many forks are below as there are bytes of forks behind it.
use Rattle.std.proofs.Common.{◌≡◌, ◌+◌, ◌-◌, ◌<◌, ◌≤◌, ◌∙◌, ℕ, ap, arith, rules, length, take, drop, get_or, length-drop}
use Rattle.std.proofs.lemmas.Iterator.{YieldsList-from_slice}
use Rattle.std.proofs.lemmas.Iterator.Search.{YieldsList-from_take_while}
use Rattle.std.proofs.lemmas.Iterator.Consumers.{count_from_yields_List, YieldsList-at}
use Rattle.std.proofs.lemmas.List.Folds.{length-prefix_len}
use Rattle.std.proofs.lemmas.List.Sums.{prefix_len_passes, prefix_len_stops}
use Rattle.std.proofs.Math.Seq.{take-length}
use Rattle.std.specs.List.{prefix_len}
use lib.Dec.{ltb}
use lib.Seq.{get_or-drop}
use borrow.Author.Tests.{ltb-true, ltb-false}
use Rattle.held.proofs.Subtree.{node-holds}
use Rattle.unrooted.proofs.Path.{path-fits, path-ends}
use Rattle.unrooted.proofs.leftmost.last_fork.Goals as goal

pub returns : goal.returns
returns c =
    let n = c.args.node in
    let k = n.at + 1 in
    let rest = drop k n.tree.now in
    let size : length n.tree.now - k ≡ length rest = omega (arith, length-drop k n.tree.now) in
    let all : take (length n.tree.now - k) rest ≡ rest = ap (λ (m : ℕ). take m rest) size ∙ take-length rest in
    let test = λ (b : ℕ). ltb 64 b in
    let many : c.count.result ≡ prefix_len test rest =
    count_from_yields_List _ c.count.result c.count.ensures.ran
    (YieldsList-from_take_while _ test (YieldsList-at c.take_while.ensures.source (YieldsList-from_slice rest (c.iter.ensures.rest ∙ all))) c.take_while.ensures.closure c.take_while.ensures.done (λ x b q t. search (rules, t)))
    ∙ length-prefix_len test rest in
    let forks : (i : ℕ) → i < c.count.result → 64 < get_or n.tree.now (k + i) 0 = λ i lt.
    rw (get_or-drop k n.tree.now i 0) at (ltb-true 64 _ (prefix_len_passes test rest i 0 (omega (arith, many)))) in
    let fits = path-fits (node-holds n) c.requires forks in
    let small : get_or n.tree.now (k + c.count.result) 0 ≤ 64 =
    rw many (rw (get_or-drop k n.tree.now (prefix_len test rest) 0) at (ltb-false 64 _ (prefix_len_stops test rest 0 (omega (arith, many, length-drop k n.tree.now, fits))))) in
    let at : k + c.count.result ≡ n.at + c.count.result + 1 = omega arith in
    path-ends (node-holds n) c.requires forks (rw at at small)
