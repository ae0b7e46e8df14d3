-- The text of the entry is compared with the other.
use Rattle.std.proofs.Common.{rules}
use Rattle.asking.proofs.Searching.{same_text}
use Rattle.asking.proofs.has_text.Goals as goal

pub returns : goal.returns
returns c hs S = search (rules, same_text, c.text_of.ensures hs S)
