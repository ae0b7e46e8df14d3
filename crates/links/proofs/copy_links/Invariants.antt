-- The flags that are passed are those of the firsts.
use Rattle.std.proofs.Common.{◌≡◌, ℕ, Bool, List, get_or}
use Rattle.links.specs.Copies.{link_of}
use Rattle.links.proofs.Flags.{Filled}
use Rattle.links.proofs.copy_links.Given as goal

-- the flag of two positions is that of their firsts
abbrev pub Copied : List (List Bool) → List ℕ → ℕ → ℕ → Bool → Type 0
Copied linked firsts a b v = v ≡ link_of linked (get_or firsts a 0) (get_or firsts b 0)

abbrev pub invariant-loop-i : goal.invariant-loop-i
invariant-loop-i l = Filled (Copied l.linked l.firsts) l.fn.links l.links l.n l.i 0

abbrev pub invariant-loop-j : goal.invariant-loop-j
invariant-loop-j l = Filled (Copied l.linked l.firsts) l.fn.links l.links l.n l.i l.j
