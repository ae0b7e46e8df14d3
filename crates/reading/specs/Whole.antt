-- What reading a whole tree answers: where it goes on, or why it ends, and what was read, kept; and which kinds are taken.
-- Assumes nothing.
use Rattle.std.specs.Prelude.{◌≡◌, Result}
use Rattle.meaning.specs.Kind.{Kinded, Takes as TakesOf, either, rooted_only}
use Rattle.meaning.specs.Reading.{Read}
use Rattle.held.specs.Held.{nodes}
use Rattle.held.specs.Kept.{KeepsKind}
use Rattle.tokens.specs.Paper.{ReadsAs}
use Rattle.tokens.specs.declared.Refusal.{Refusal}
use Rattle.reading.specs.declared.Takes.{Takes}
use Rattle.reading.specs.declared.Takes.TheVariants.{Either, RootedOnly}
use Rattle.reading.specs.declared.TreeRead.{TreeRead}

-- the kinds that are taken, in document 02's words
abbrev pub takes_of : Takes → TakesOf
takes_of Either = either
takes_of RootedOnly = rooted_only

-- a tree that was read is kept, and has so many nodes
pub record Reads (read : TreeRead) (x : Kinded) : Type 0 where
  pub keeps : KeepsKind read.tree x
  pub count : read.nodes ≡ nodes x.tree

abbrev pub TreeMeets : Read Kinded → Result TreeRead Refusal → Type 0
TreeMeets g r = ReadsAs g (λ read. read.behind) Reads r
