-- `stands_in` meets its contract: x stands in the cells that are left. Rests on `spaced_next`.
use Rattle.std.proofs.Common.{◌≡◌, ◌+◌, false, get_or, drop, sym, ap, ◌∙◌, arith, ne_eqb}
use Rattle.laws.specs.Room.{holds}
use Rattle.vectors.specs.Asked.{spaced}
use Rattle.vectors.proofs.Counting.{spaced_first, spaced_next, spaced_none}
use Rattle.vectors.proofs.asked.stands_in.Goals as goal

pub loop-i-init : goal.loop-i-init
loop-i-init c = ap (holds c.args.x) (spaced_first c.args.gap c.args.cells.now)

pub loop-i-preserved : goal.loop-i-preserved
loop-i-preserved c =
    let g = c.args.gap in
    let xs = c.args.cells.now in
    let i = c.loop-i.i in
    let x = c.args.x in
    let more : holds x (spaced g 0 (drop i xs)) ≡ holds x (spaced g 0 (drop (i + (g + 1)) xs)) = rw (spaced_next g xs i (omega arith), ne_eqb x (get_or xs i 0) c.if-x-cells.false) in
    sym more ∙ c.loop-i.invariant

pub returns-else-x-cells : goal.returns-else-x-cells
returns-else-x-cells c =
    let g = c.args.gap in
    let xs = c.args.cells.now in
    let i = c.loop-i.i in
    let x = c.args.x in
    let none : holds x (spaced g 0 (drop i xs)) ≡ false = rw (spaced_next g xs i (omega arith), ne_eqb x (get_or xs i 0) c.if-x-cells.false, spaced_none g xs (i + (g + 1)) (omega arith)) in
    sym none ∙ c.loop-i.invariant
