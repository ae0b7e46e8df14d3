-- Prints and keys: the order of children does not matter to them, and they fit.
-- Assumes nothing.
use mathlib.Core.Path.{◌≡◌, refl, ap}
use Prim.Native.Nat.{ℕ, ◌+◌, ◌-◌, ◌*◌, ◌%◌, ◌≤◌}
use native.Mathlib.Nat.{mod-lt, mul-le-mul}
use native.Mathlib.Omega.{arith}
use lib.Dec.{lit<}
use Rattle.meaning.specs.Tree.{Tree, leaf, fork, Good, leaves, canon}
use Rattle.meaning.specs.Move.{Cut}
use Rattle.meaning.specs.Clade.{clade}
use Rattle.meaning.proofs.Same.{◌≈◌, one, same, swap}
use Rattle.meaning.proofs.Canon.{canon-≈}
use Rattle.meaning.proofs.Clade.{clade-≈}
use Rattle.meaning.proofs.Length.{leaves-64}
use Rattle.prints.specs.Print.{prime, max_spread, max_print, spread, print, folded, key}

print-≈ : {t u : Tree} → t ≈ u → print t ≡ print u
print-≈ one = refl
print-≈ (same {a} {b} {c} {d} p q) =
    let e : clade a + clade b ≡ clade c + clade d = omega (arith, clade-≈ p, clade-≈ q) in
    omega (arith, ap spread e, print-≈ p, print-≈ q)
print-≈ (swap {a} {b} {c} {d} p q) =
    let e : clade a + clade b ≡ clade c + clade d = omega (arith, clade-≈ p, clade-≈ q) in
    omega (arith, ap spread e, print-≈ p, print-≈ q)

-- equal forests have equal keys
pub key-same : (c d : Cut) → c.pruned ≡ d.pruned → canon c.rest ≡ canon d.rest → key c ≡ key d
key-same c d e f =
    let same : print c.pruned + print c.rest ≡ print d.pruned + print d.rest = omega (arith, ap print e, print-≈ (canon-≈ c.rest), print-≈ (canon-≈ d.rest), ap print f) in
    ap folded same

-- no key is 0, which stands for none
pub key-some : (c : Cut) → ¬ (key c ≡ 0)
unfolding folded
key-some c e = omega arith

pub spread-fits : (x : ℕ) → spread x ≤ max_spread
unfolding spread
spread-fits x = let h : x % prime ≤ prime - 1 = omega (arith, mod-lt x {m = prime} (lit< tt)) in mul-le-mul h h

print-leaves : (t : Tree) → print t + max_spread ≤ max_spread * leaves t
print-leaves (leaf l) = omega arith
print-leaves (fork a b) = omega (arith, print-leaves a, print-leaves b, spread-fits (clade a + clade b))

pub print-fits : {t : Tree} → Good t → print t ≤ max_print
print-fits {t} G = omega (arith, print-leaves t, leaves-64 G)
