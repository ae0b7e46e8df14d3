use Rattle.std.proofs.Common.{◌≡◌, ◌∙◌, ℕ, List, Bool, true, false, ◌&&◌, sym, ap, arith, length, suc}
use lib.Dec.{eqb}
use borrow.Author.Tests.{eq-eqb, ne_eqb}
use Rattle.meaning.specs.Lists.{every}
use Rattle.families.specs.Clades.{size}
use Rattle.families.specs.Row.{is_row, rises_from, all_fit, part_of}
use Rattle.families.proofs.RowSteps.{row-none}
use Rattle.rows.proofs.Tests.{row-is}
use Rattle.rows.proofs.is_row.Goals as goal
use Rattle.rows.proofs.is_row.Goals.{then-whole, else-whole, then-ascends, else-ascends, After-from}

pub returns-in_default : goal.returns-in_default
returns-in_default c = row-none c.args.row.now c.in_default.ensures.cases

-- the label set, and the clades behind it
module _ (k : After-from) where
  abbrev s : ℕ
  s = k.in-Some.field-0-0.now

  abbrev cs : List ℕ
  cs = k.in-Some.clades.now

  abbrev counted : Bool
  counted = eqb (size s) (suc (length cs))

  many : k.labels.result ≡ size s
  many = k.labels.ensures ∙ ap size k.new-s.ensures

  tests : ((((counted && rises_from 0 cs) && every (part_of s) cs) && all_fit cs)) ≡ is_row k.args.row.now
  tests = sym (row-is s cs (omega arith)) ∙ sym (ap is_row k.in-Some.ensures.cases.0)

  is_counted : k.from.result ≡ length k.args.row.now → counted ≡ true
  is_counted e = eq-eqb (size s) (suc (length cs)) (omega (arith, e, k.from.ensures, many, ap length k.in-Some.ensures.cases.0))

  not_counted : (k.from.result ≡ length k.args.row.now → ⊥) → counted ≡ false
  not_counted n = ne_eqb (size s) (suc (length cs)) (λ e. n (omega (arith, e, k.from.ensures, many, ap length k.in-Some.ensures.cases.0)))

pub returns-then-all_parts : goal.returns-then-all_parts
returns-then-all_parts c =
    let k = (goal.at.returns-then-all_parts c).After-from in
    let first : c.if-whole.value ≡ (counted k && rises_from 0 (cs k)) =
    elim c.if-whole.branch [
      | then-whole v ↦ v.value-is ∙ v.ascends.ensures ∙ sym (ap (λ b. b && rises_from 0 (cs k)) (is_counted k v.if-whole.true))
      | else-whole v ↦ v.value-is ∙ ne_eqb _ _ v.if-whole.false ∙ sym (ap (λ b. b && rises_from 0 (cs k)) (not_counted k v.if-whole.false))
    ] in
    let second : c.if-ascends.value ≡ ((counted k && rises_from 0 (cs k)) && every (part_of (s k)) (cs k)) =
    elim c.if-ascends.branch [
      | then-ascends w ↦ w.value-is ∙ w.all_parts.ensures ∙ ap (λ x. every (part_of x) (cs k)) k.new-s.ensures ∙ sym (ap (λ b. b && every (part_of (s k)) (cs k)) (sym first ∙ w.if-ascends.true))
      | else-ascends w ↦ w.value-is ∙ w.if-ascends.false ∙ sym (ap (λ b. b && every (part_of (s k)) (cs k)) (sym first ∙ w.if-ascends.false))
    ] in
    c.all_fit.ensures ∙ sym (ap (λ b. b && all_fit (cs k)) (sym second ∙ c.if-all_parts.true)) ∙ tests k

pub returns-else-all_parts : goal.returns-else-all_parts
returns-else-all_parts c =
    let k = (goal.at.returns-else-all_parts c).After-from in
    let first : c.if-whole.value ≡ (counted k && rises_from 0 (cs k)) =
    elim c.if-whole.branch [
      | then-whole v ↦ v.value-is ∙ v.ascends.ensures ∙ sym (ap (λ b. b && rises_from 0 (cs k)) (is_counted k v.if-whole.true))
      | else-whole v ↦ v.value-is ∙ ne_eqb _ _ v.if-whole.false ∙ sym (ap (λ b. b && rises_from 0 (cs k)) (not_counted k v.if-whole.false))
    ] in
    let second : c.if-ascends.value ≡ ((counted k && rises_from 0 (cs k)) && every (part_of (s k)) (cs k)) =
    elim c.if-ascends.branch [
      | then-ascends w ↦ w.value-is ∙ w.all_parts.ensures ∙ ap (λ x. every (part_of x) (cs k)) k.new-s.ensures ∙ sym (ap (λ b. b && every (part_of (s k)) (cs k)) (sym first ∙ w.if-ascends.true))
      | else-ascends w ↦ w.value-is ∙ w.if-ascends.false ∙ sym (ap (λ b. b && every (part_of (s k)) (cs k)) (sym first ∙ w.if-ascends.false))
    ] in
    c.if-all_parts.false ∙ sym (ap (λ b. b && all_fit (cs k)) (sym second ∙ c.if-all_parts.false)) ∙ tests k
