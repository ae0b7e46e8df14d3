use Rattle.std.proofs.Common.{◌≡◌, ap, ap₂, sym, ◌∙◌, List, ℕ, length, take, arith, get_or}
use Rattle.std.proofs.Math.Seq.{take-length}
use Rattle.meaning.specs.Islands.{unite, unite_all}
use Rattle.meaning.proofs.Lists.{numbered}
use Rattle.lent.proofs.Runs.{wrote-length, written-first}
use Rattle.graph.proofs.Listed.{chunks-many, chunk-at}
use Rattle.numbering.proofs.Uniting.{unite-next}
use Rattle.numbering.proofs.number_islands.Goals as goal

pub loop-i-init : goal.loop-i-init
loop-i-init c ps e =
    let fs = c.args.firsts.now in
    let w = c.copy.ensures in
    let long : c.copy.result ≡ length c.copy.new.out = omega (arith, w.behind, wrote-length w, c.requires.same, ap length (take-length fs)) in
    sym (take-length c.copy.new.out) ∙ ap (λ (n : ℕ). take n c.copy.new.out) (sym long)
    ∙ written-first w (omega (arith, wrote-length w, long)) ∙ take-length fs

pub unite-requires : goal.unite-requires
unite-requires c =
    let r = c.requires in
    let k = c.loop-i.i-index in
    let e = chunk-at r.linked r.listed c.as_chunks.ensures.front k c.loop-i-test.true in
    let inside = r.within _ (numbered r.linked (0, 0) k (omega (arith, chunks-many r.linked r.listed c.as_chunks.ensures.front, c.loop-i-test.true))) in
    rw e (omega (arith, inside.0), omega (arith, inside.1))

pub loop-i-preserved : goal.loop-i-preserved
loop-i-preserved c ps e =
    let k = c.loop-i.i-index in
    let at = chunk-at ps e c.as_chunks.ensures.front k c.loop-i-test.true in
    let next = unite-next c.args.firsts.now ps k (omega (arith, chunks-many ps e c.as_chunks.ensures.front, c.loop-i-test.true)) in
    c.unite.ensures ∙ ap₂ (λ (xs p : List ℕ). unite xs (get_or p 0 0) (get_or p 1 0)) (c.loop-i.invariant ps e) at ∙ sym next

pub returns : goal.returns
returns c ps e =
    let all : c.loop-i.i-index ≡ length ps = omega (arith, chunks-many ps e c.as_chunks.ensures.front, c.loop-i-test.false) in
    c.loop-i.invariant ps e ∙ ap (unite_all c.args.firsts.now) (ap (λ (k : ℕ). take k ps) all ∙ take-length ps)
