-- `put_rows` meets its contract: the exponents of the first k monomials are written. Rests on `spread_next`.
use mathlib.Core.Path.{◌∙◌}
use Rattle.records.proofs.Choosing.{spread_next}
use Rattle.records.proofs.ideal.put_rows.Goals as goal

pub loop-k-preserved : goal.loop-k-preserved
loop-k-preserved c =
    let l = c.args.list.now in let k = c.loop-k.k in
    c.put_cells.ensures ∙ rw (c.loop-k.invariant, c.row.ensures.row) (spread_next l.width l.count l.cells.now l.filled c.args.out.now c.args.places.now k c.requires.below c.loop-k-test.true)
