use Rattle.numbers.proofs.LeastPowers.{unit_next}
use Rattle.numbers.proofs.powers.has_unit.Goals as goal

pub loop-i-preserved : goal.loop-i-preserved
loop-i-preserved c =
    let a = c.args.list.now in
    let l = c.loop-i in
    unit_next a.n a.count a.cells.now a.in_cells c.requires l.i c.row.result.now c.loop-i-test.true c.row.ensures c.degree.result c.degree.ensures.0 l.invariant c.if-degree-eq0.false
