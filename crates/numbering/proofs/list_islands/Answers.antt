use Rattle.std.proofs.Common.{◌*◌, sym, arith}
use Rattle.std.proofs.Math.Seq.{length-take-le}
use Rattle.numbering.proofs.Uniting.{islands-long, islands-room, islands-written}
use Rattle.numbering.proofs.list_islands.Goals as goal

pub overflow_mul-m : goal.overflow_mul-m
overflow_mul-m c = omega (arith, (islands-long c.requires c.list_moves-m.ensures).2)

pub slice_bounds-number_islands-end-5 : goal.slice_bounds-number_islands-end-5
slice_bounds-number_islands-end-5 c = (islands-long c.requires c.list_moves-m.ensures).2

pub slice_bounds-number_islands-end-6 : goal.slice_bounds-number_islands-end-6
slice_bounds-number_islands-end-6 c = sym (length-take-le (2 * c.list_moves-m.result) c.list_moves-m.new.pairs (islands-long c.requires c.list_moves-m.ensures).2)

pub number_islands-requires : goal.number_islands-requires
number_islands-requires c = islands-room c.requires c.list_moves-m.ensures

pub returns : goal.returns
returns c = islands-written c.requires c.list_moves-m.ensures c.number_islands.auto.numbers c.number_islands.ensures
