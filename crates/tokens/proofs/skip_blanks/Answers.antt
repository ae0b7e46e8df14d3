-- The blanks are the run from `from` on.
use Rattle.std.proofs.Common.{rules, sym, ◌≡◌, ◌-◌, ◌∙◌, length, take, drop}
use Rattle.std.proofs.lemmas.List.{take_rest}
use Rattle.meaning.specs.Reading.{is_blank, lead}
use Rattle.tokens.proofs.Runs.{lead-is, past-from}
use Rattle.tokens.proofs.skip_blanks.Goals as goal

pub returns : goal.returns
returns c =
    let s = c.args.s.now in
    let m = c.min.result in
    let rest = c.iter.result.rest.now in
    let run : lead is_blank rest ≡ c.count.result = lead-is is_blank rest c.count.result (search rules) (λ i h. search rules) (λ h. search rules) in
    let cut : rest ≡ take (length s - m) (drop m s) = search rules in
    sym (past-from is_blank s c.args.from m c.count.result c.min.ensures (rw (cut ∙ take_rest s m) at run))
