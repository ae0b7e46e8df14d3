-- What is said of a tree of either kind. The tree of an unrooted one is a rooting of it.
-- Assumes nothing.
use Rattle.std.specs.Prelude.{Bool, List, [], ◌∷◌, ◌++◌, ℕ}
use Rattle.meaning.specs.Tree.{Tree, SameTopology, canon, write}
use Rattle.meaning.specs.Move.{OneMove}
use Rattle.meaning.specs.Decide.{is_apart}
use Rattle.meaning.specs.Kind.{Kind, rooted, unrooted, Kinded}
use Rattle.meaning.specs.Unrooted.{SameSplits, standing, OneMoveU, mark, write_unrooted}
use Rattle.meaning.specs.UnrootedDecide.{is_apart_unrooted}

-- one topology
abbrev pub SameAs : Kind → Tree → Tree → Type 0
SameAs rooted t u = SameTopology t u
SameAs unrooted t u = SameSplits t u

-- some move of t gives a tree of u's topology
abbrev pub OneMoveAs : Kind → Tree → Tree → Type 0
OneMoveAs rooted t u = OneMove t u
OneMoveAs unrooted t u = OneMoveU t u

-- u is a neighbour of t: one move away, and of another topology
abbrev pub ApartAs : Kind → Tree → Tree → Type 0
ApartAs k t u = (¬ SameAs k t u) × OneMoveAs k t u

abbrev pub canon_as : Kind → Tree → Tree
canon_as k t = canon (standing k t)

-- a rooting as text: only an unrooted tree has a mark
abbrev pub write_as : Kind → Tree → List ℕ
write_as rooted t = write t
write_as unrooted t = mark ++ write_unrooted t

-- the canonical text
abbrev pub form_as : Kind → Tree → List ℕ
form_as k t = write_as k (canon_as k t) ++ (59 ∷ [])

-- the canonical texts of trees of one kind, one after another
unfoldable pub forms_as : Kind → List Tree → List ℕ
forms_as k [] = []
forms_as k (t ∷ ts) = form_as k t ++ forms_as k ts

-- the canonical form with its kind
abbrev pub canon_kinded : Kind → Tree → Kinded
canon_kinded k t = record { kind = k; tree = canon_as k t }

-- the test for one move apart
abbrev pub is_apart_as : Kind → Tree → Tree → Bool
is_apart_as rooted t u = is_apart t u
is_apart_as unrooted t u = is_apart_unrooted t u
