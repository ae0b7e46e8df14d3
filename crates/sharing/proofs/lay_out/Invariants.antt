-- The keys of the first i trees are laid out.
use Rattle.std.proofs.Common.{◌≡◌, length}
use Rattle.chains.specs.Chains.{entries}
use Rattle.sharing.specs.Links.{OfTrees}
use Rattle.sharing.proofs.Rows.{KeyedTo}
use Rattle.sharing.proofs.lay_out.Given as goal

abbrev pub invariant-loop-i : goal.invariant-loop-i
invariant-loop-i l = record { long : length l.keys ≡ entries; laid : OfTrees l.table (λ ts. KeyedTo ts l.keys l.i) }
