-- Each cut's text is one of an index.
use Rattle.std.proofs.Common.{◌∙◌, arith}
use Rattle.holdings.specs.Memory.{Shelved}
use Rattle.holdings.proofs.Memory.{index-shelved}
use Rattle.asking.proofs.Marking.{met-none, met_next, met_all}
use Rattle.asking.proofs.mark_met.Goals.{Start}
use Rattle.asking.proofs.mark_met.Goals as goal

-- the slots stand in memory
shelves : (s : Start) → Shelved s.requires.0.valid.slots s.args.slots.now
shelves s = index-shelved s.requires.0.long s.requires.0.valid.index

pub cuts-cut-end-requires : goal.cuts-cut-end-requires
cuts-cut-end-requires c = c.requires.0.inside

pub loop-cut-init : goal.loop-cut-init
loop-cut-init c = λ hs I. met-none hs _ _

pub text_of-requires : goal.text_of-requires
text_of-requires c =
    let S = shelves (goal.at.text_of-requires c).Start in
    record { slots = _; shelved = S; entry = omega (arith, c.loop-cut-test.true, c.cuts-cut-end.ensures _ S) }

pub mark_text-requires : goal.mark_text-requires
mark_text-requires c =
    let v = c.requires.0.valid in
    record {
      slots = v.slots;
      index = v.index;
      long = c.requires.0.long;
      many = c.count-n.ensures v.slots (shelves (goal.at.mark_text-requires c).Start);
      room = (c.loop-cut.invariant v.slots v.index).long ∙ c.requires.1;
    }

pub loop-cut-preserved : goal.loop-cut-preserved
loop-cut-preserved c = λ hs I.
    met_next hs _ (c.loop-cut.invariant hs I) (rw (c.text_of.ensures hs (index-shelved c.requires.0.long I)) at (c.mark_text.ensures hs I))

pub returns : goal.returns
returns c hs I =
    met_all hs c.args.x (omega (arith, c.loop-cut-test.false, c.cuts-cut-end.ensures hs (index-shelved c.requires.0.long I))) (c.loop-cut.invariant hs I)
