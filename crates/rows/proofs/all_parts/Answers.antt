use Rattle.std.proofs.Common.{◌≡◌, rules, true, false}
use Rattle.std.proofs.lemmas.Iterator.{cases_from_all, YieldsList-from_slice}
use Rattle.families.specs.Row.{part_of}
use Rattle.rows.proofs.Tests.{every-from_all}
use Rattle.rows.proofs.all_parts.Goals as goal

pub returns : goal.returns
returns c =
    every-from_all (part_of c.args.s) c.args.clades.now c.all.result (
    cases_from_all _ _ _ (λ x. part_of c.args.s x ≡ true) (λ x. part_of c.args.s x ≡ false) c.all.ensures.ran (YieldsList-from_slice c.args.clades.now cc) (λ x q k. search rules) (λ x q k. search rules)
    )
