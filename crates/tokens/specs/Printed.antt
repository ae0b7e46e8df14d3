-- A refusal as it is printed.
-- Assumes nothing.
use Rattle.std.specs.Prelude.{List, ◌++◌, ℕ, codes}
use Rattle.std.specs.Fmt.{decimal}
use Rattle.tokens.specs.Paper.{number_of}
use Rattle.tokens.specs.declared.Refusal.{Refusal}

-- its number, which text and the place, each in decimal
abbrev pub refusal_text : Refusal → List ℕ
refusal_text x = codes "refused " ++ decimal (number_of x.reason) ++ codes " in " ++ decimal x.text ++ codes " at " ++ decimal x.place
