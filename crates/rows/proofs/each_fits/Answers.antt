use Rattle.std.proofs.Common.{◌≡◌, rules, true, false}
use Rattle.std.proofs.lemmas.Iterator.{cases_from_all, YieldsList-from_slice}
use Rattle.families.specs.Row.{fits}
use Rattle.rows.proofs.Tests.{every-from_all}
use Rattle.rows.proofs.each_fits.Goals as goal

pub returns : goal.returns
returns c =
    every-from_all (fits c.args.c) c.args.clades.now c.all.result (
    cases_from_all _ _ _ (λ x. fits c.args.c x ≡ true) (λ x. fits c.args.c x ≡ false) c.all.ensures.ran (YieldsList-from_slice c.args.clades.now cc) (λ x q k. search rules) (λ x q k. search rules)
    )
