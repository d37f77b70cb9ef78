use Rattle.std.proofs.Common.{length, sym, ap, ◌∙◌}
use Rattle.laws.proofs.Leaf.{product_as, product_more, product_none}
use Rattle.laws.specs.Monomial.{degree}
use Rattle.numbers.proofs.leaf.product.Goals as goal

pub loop-i-init : goal.loop-i-init
loop-i-init c =
    product_as c.args.seed.now c.args.list.now.n 0 c.args.list.now.cells.now (length c.args.scratch.now) (length c.add_shifted.new.out) c.add_shifted.new.out (sym c.add_shifted.ensures.len) (product_none c.args.seed.now c.args.list.now.n c.args.list.now.cells.now c.args.scratch.now c.add_shifted.new.out c.requires.zeros c.add_shifted.ensures)

pub loop-i-preserved : goal.loop-i-preserved
loop-i-preserved c =
    product_more c.args.seed.now c.args.list.now.n c.loop-i.i c.degree-d.result c.args.list.now.cells.now (length c.add_shifted.new.out) c.loop-i.scratch c.times.new.c (c.degree-d.ensures.0 ∙ ap degree c.row.ensures) c.times.ensures c.loop-i.invariant
