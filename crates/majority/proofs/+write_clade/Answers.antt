use Rattle.std.proofs.Common.{◌≡◌, ◌∙◌, ℕ, ◌≤◌, ◌<◌, length, arith, rules, ap, subst, refl}
use Rattle.meaning.specs.Tree.{digits}
use Rattle.meaning.specs.Lists.{member}
use Rattle.meaning.proofs.Clade.{clade-some}
use Rattle.families.specs.Clades.{size}
use Rattle.majority.proofs.Texts.{leaf-text, wrote-leaf, any-member, open-room, child-inside, child-less, rest-less, child-room, comma-room, rest-room, close-room, clade-written}
use Rattle.majority.proofs.+write_clade.Goals as goal
use Rattle.majority.proofs.+write_clade.Goals.{After-first_child-child}

pub write_number-requires : goal.write_number-requires
write_number-requires t c =
    let p = c.requires in
    let one : size c.args.c < 2 = omega (arith, c.labels.ensures, c.if-labels-lt2.true) in
    omega (arith, p.room, ap length (leaf-text p.tree p.grows one), ap (λ (n : ℕ). length (digits n)) (c.from.ensures ∙ c.smallest.ensures))

pub returns-then-labels-lt2 : goal.returns-then-labels-lt2
returns-then-labels-lt2 t c = λ u g. wrote-leaf u g c.labels.ensures c.if-labels-lt2.true (c.from.ensures ∙ c.smallest.ensures) c.write_number.ensures

pub first_child-child-requires : goal.first_child-child-requires
first_child-child-requires t c = let p = c.requires in subst (λ (x : ℕ). 0 < x) p.grows.whole (clade-some p.tree)

-- two labels or more, and whether the clade is listed
two : (t : ℕ) (d : After-first_child-child t) → 2 ≤ size d.args.c
two t d = omega (arith, d.labels.ensures, d.if-labels-lt2.false)

said : (t : ℕ) (d : After-first_child-child t) → d.contains-node.result ≡ member d.args.c d.args.clades.now
said t d = d.contains-node.ensures.value ∙ any-member d.bits.result d.args.clades.now ∙ ap (λ (x : ℕ). member x d.args.clades.now) d.bits.ensures

pub write_bracket-first-requires : goal.write_bracket-first-requires
write_bracket-first-requires t c =
    let d = (goal.at.write_bracket-first-requires t c).After-first_child-child in
    open-room c.requires (two t d) (said t d) c.first_child-child.ensures

pub write_clade-comma-requires : goal.write_clade-comma-requires
write_clade-comma-requires t c =
    let d = (goal.at.write_clade-comma-requires t c).After-first_child-child in
    let e = c.first_child-child.ensures in (
      omega (arith, child-less c.requires (two t d) (said t d) e, c.decreases),
      child-room c.requires (two t d) (said t d) e refl c.write_bracket-first.ensures,
    )

pub bounds-out-comma : goal.bounds-out-comma
bounds-out-comma t c =
    let d = (goal.at.bounds-out-comma t c).After-first_child-child in
    omega (arith, comma-room c.requires (two t d) (said t d) c.first_child-child.ensures refl c.write_bracket-first.ensures c.write_clade-comma.ensures)

pub overflow_add-comma : goal.overflow_add-comma
overflow_add-comma t c =
    let d = (goal.at.overflow_add-comma t c).After-first_child-child in
    let h = comma-room c.requires (two t d) (said t d) c.first_child-child.ensures refl c.write_bracket-first.ensures c.write_clade-comma.ensures in
    search (rules, h)

pub without-requires : goal.without-requires
without-requires t c =
    let d = (goal.at.without-requires t c).After-first_child-child in
    child-inside c.requires (two t d) (said t d) c.first_child-child.ensures

pub write_clade-close-requires : goal.write_clade-close-requires
write_clade-close-requires t c =
    let d = (goal.at.write_clade-close-requires t c).After-first_child-child in
    let e = c.first_child-child.ensures in
    rw c.without.ensures (
      omega (arith, rest-less c.requires (two t d) (said t d) e, c.decreases),
      rest-room c.requires (two t d) (said t d) e refl c.write_bracket-first.ensures c.write_clade-comma.ensures,
    )

pub write_bracket-requires : goal.write_bracket-requires
write_bracket-requires t c =
    let d = (goal.at.write_bracket-requires t c).After-first_child-child in
    close-room c.requires (two t d) (said t d) c.first_child-child.ensures refl c.write_bracket-first.ensures c.write_clade-comma.ensures
    (rw c.without.ensures at c.write_clade-close.ensures)

pub returns : goal.returns
returns t c =
    let d = (goal.at.returns t c).After-first_child-child in
    clade-written c.requires (two t d) (said t d) c.first_child-child.ensures refl c.write_bracket-first.ensures c.write_clade-comma.ensures
    (rw c.without.ensures at c.write_clade-close.ensures) c.write_bracket.ensures
