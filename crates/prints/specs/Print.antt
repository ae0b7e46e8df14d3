-- A fingerprint of topologies and of forests: equal ones have equal prints, whatever the order of children.
-- Assumes nothing.
use Rattle.std.specs.Prelude.{ℕ, ◌+◌, ◌-◌, ◌*◌, ◌%◌}
use Rattle.meaning.specs.Limits.{max_label}
use Rattle.meaning.specs.Tree.{Tree, leaf, fork}
use Rattle.meaning.specs.Move.{Cut}
use Rattle.meaning.specs.Clade.{clade}

-- a prime below 2 ^ 28, so the sum of 63 squares of remainders is below 2 ^ 62
abbrev pub prime : ℕ
prime = 268435399

-- the largest part of a clade in a print
abbrev pub max_spread : ℕ
max_spread = (prime - 1) * (prime - 1)

-- the largest print: a tree has one clade of two or more labels fewer than leaves
abbrev pub max_print : ℕ
max_print = (max_label - 1) * max_spread

-- a clade's part in a print: the square of what is left of its number after division by the prime
unfoldable pub spread : ℕ → ℕ
spread x = (x % prime) * (x % prime)

-- the sum of these over the clades of two or more labels
abbrev pub print : Tree → ℕ
print (leaf l) = 0
print (fork a b) = spread (clade a + clade b) + (print a + print b)

-- so many keys there are, 2 ^ 31
abbrev pub range : ℕ
range = 2147483648

-- what is kept of a print: never 0
unfoldable pub folded : ℕ → ℕ
folded x = 1 + x % range

-- a forest's key: what is kept of the prints of both its parts
abbrev pub key : Cut → ℕ
key c = folded (print c.pruned + print c.rest)
