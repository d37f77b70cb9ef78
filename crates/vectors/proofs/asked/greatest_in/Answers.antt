-- `greatest_in` meets its contract: the greatest so far and the cells that are left. Rests on `spaced_next`.
use Rattle.std.proofs.Common.{◌+◌, ap, arith}
use Rattle.laws.proofs.Asked.{greatest}
use Rattle.vectors.proofs.Counting.{spaced_first, spaced_next, spaced_none}
use Rattle.vectors.proofs.asked.greatest_in.Goals as goal

pub loop-i-init : goal.loop-i-init
loop-i-init c = omega (arith, ap greatest (spaced_first c.args.gap c.args.cells.now))

pub loop-i-preserved : goal.loop-i-preserved
loop-i-preserved c = omega (arith, ap greatest (spaced_next c.args.gap c.args.cells.now c.loop-i.i (omega arith)))

pub returns-2 : goal.returns-2
returns-2 c =
    let g = c.args.gap in
    let xs = c.args.cells.now in
    let i = c.loop-i.i in
    omega (arith, ap greatest (spaced_next g xs i (omega arith)), ap greatest (spaced_none g xs (i + (g + 1)) (omega arith)))
