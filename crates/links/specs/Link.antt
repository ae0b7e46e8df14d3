-- What links two trees.
-- Assumes nothing.
use Rattle.meaning.specs.Tree.{Tree, canon}
use Rattle.meaning.specs.Move.{Apart}
use Rattle.meaning.specs.Interchange.{OneInterchange}
use Rattle.unrooted.specs.Apart.{OtherRoot, ApartHung}
use Rattle.links.specs.declared.Link.{Link}
use Rattle.links.specs.declared.Link.TheVariants.{Move, UnrootedMove, Interchange}

-- t and u are one move apart, or one unrooted move of the trees that they stand for, or one interchange
abbrev pub Linked : Link → Tree → Tree → Type 0
Linked Move t u = Apart t u
Linked UnrootedMove t u = ApartHung t u
Linked Interchange t u = OneInterchange t u

-- t and u differ only by the place of the root in one subtree
abbrev pub Respun : Tree → Tree → Type 0
Respun t u = OtherRoot (canon t) (canon u)
