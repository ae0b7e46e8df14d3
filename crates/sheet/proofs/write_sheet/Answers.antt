use Rattle.std.proofs.Common.{◌*◌, sym, arith}
use Rattle.std.proofs.Math.Seq.{length-take-le}
use Rattle.graph.proofs.Listed.{pairs-long}
use Rattle.sheet.proofs.Whole.{first_fits, trees-fit, pairs-fit, wrote-sheet}
use Rattle.sheet.proofs.write_sheet.Goals as goal

pub write_first_line-trees-requires : goal.write_first_line-trees-requires
write_first_line-trees-requires c = first_fits c.args.out.now c.requires

pub write_tree_lines-links-requires : goal.write_tree_lines-links-requires
write_tree_lines-links-requires c = trees-fit c.args.out.now c.requires c.write_first_line-trees.ensures

pub overflow_mul-m : goal.overflow_mul-m
overflow_mul-m c = omega (arith, pairs-long c.requires.pairs-listed)

pub slice_bounds-write_pair_lines-end : goal.slice_bounds-write_pair_lines-end
slice_bounds-write_pair_lines-end c = sym (length-take-le (2 * c.args.m) c.args.pairs.now (pairs-long c.requires.pairs-listed))

pub write_pair_lines-requires : goal.write_pair_lines-requires
write_pair_lines-requires c = pairs-fit c.args.out.now c.requires c.write_first_line-trees.ensures c.write_tree_lines-links.ensures

pub returns : goal.returns
returns c = wrote-sheet c.write_first_line-trees.ensures c.write_tree_lines-links.ensures c.write_pair_lines.ensures
