-- No two cuts that are passed have the same forest, and what is counted is the number up to them.
use Rattle.std.proofs.Common.{◌≡◌, ◌≤◌, ◌<◌, ℕ, false}
use Rattle.pairs.proofs.Search.{Other}
use Rattle.pairs.proofs.Counting.{Counted, Met}
use Rattle.pairs.proofs.find_forest.Given as goal

abbrev pub invariant-search : goal.invariant-search
invariant-search l = (l.forests < l.p) × (l.found ≡ false) × ((i : ℕ) → i < l.p → 1 ≤ i → (j : ℕ) → j < l.others → 1 ≤ j → Other l.x i l.y j) × Counted l.x l.y l.p l.forests

abbrev pub invariant-loop-q : goal.invariant-loop-q
invariant-loop-q l = (l.found ≡ false) × ((j : ℕ) → j < l.q → 1 ≤ j → Other l.x l.p l.y j) × Met l.n l.others l.gone l.q l.before l.forests
