-- Clades as 64-bit numbers, label L at bit L - 1.
-- Assumes nothing.
use Rattle.std.specs.Prelude.{◌≡◌, Bool, ℕ, zero, suc, ◌+◌, ◌-◌, ◌/◌, ◌%◌, ◌^◌, eqb}
use Rattle.std.specs.Int.Bits.{bit_and}
use Rattle.std.specs.Int.Count.{count_trailing_zeros}
use Rattle.meaning.specs.Tree.{Tree, leaf, fork}

-- the bit of label l in the number x: 1 or 0
unfoldable pub digit : ℕ → ℕ → ℕ
digit zero x = 0
digit (suc zero) x = x % 2
digit (suc (suc k)) x = digit (suc k) (x / 2)

-- l is a label of the clade x
abbrev pub HasLabel : ℕ → ℕ → Type 0
HasLabel l x = digit l x ≡ 1

-- its smallest label, from the trailing zeros of its 64 bits
abbrev pub lowest : ℕ → ℕ
lowest x = suc (count_trailing_zeros 64 x)

-- every label of c is one of d
abbrev pub inside : ℕ → ℕ → Bool
inside c d = eqb (bit_and c d) c

-- no label of c is one of d
abbrev pub disjoint : ℕ → ℕ → Bool
disjoint c d = eqb (bit_and c d) 0

-- the clade of a tree's root
abbrev pub clade : Tree → ℕ
clade (leaf n) = 2 ^ (n - 1)
clade (fork a b) = clade a + clade b
