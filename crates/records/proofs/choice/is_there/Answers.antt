-- `is_there` meets its contract: there is no such place, or the comparison decides.
use lib.ListN.{get_or, length}
use mathlib.Core.Path.{◌∙◌}
use borrow.Author.Tests.{le-ltb}
use Rattle.laws.specs.Order.{degrevlex}
use Rattle.records.specs.Rows.{member}
use Rattle.records.proofs.Cells.{equal_told}
use Rattle.records.proofs.Choosing.{rows_at_next, rows_at_end}
use Rattle.records.proofs.choice.is_there.Goals as goal

pub returns-then-p-places : goal.returns-then-p-places
returns-then-p-places c =
    let l = c.args.list.now in let ps = c.args.places.now in
    c.eq.ensures
    ∙ rw (rows_at_next l.width l.cells.now c.args.p ps c.if-p-places.true) (equal_told (degrevlex (member l c.args.i) (member l (get_or ps c.args.p 0))) c.compare.result c.compare.ensures)

pub returns-else-p-places : goal.returns-else-p-places
returns-else-p-places c =
    let l = c.args.list.now in let ps = c.args.places.now in
    rw (rows_at_end l.width l.cells.now c.args.p ps c.if-p-places.false) (le-ltb c.args.p (length ps) c.if-p-places.false)
