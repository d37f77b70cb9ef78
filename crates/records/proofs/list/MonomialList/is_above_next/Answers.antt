-- `is_above_next` meets its contract: there is no next monomial, or the comparison with it decides.
use native.Mathlib.Omega.{arith}
use mathlib.Core.Path.{◌∙◌}
use Prim.Native.Nat.{◌+◌, ◌-◌, ◌≤◌, ◌<◌}
use borrow.Author.Tests.{eq-eqb}
use Rattle.laws.specs.Order.{degrevlex}
use Rattle.records.specs.Rows.{member}
use Rattle.records.proofs.Cells.{listed_next, listed_end, greater_told}
use Rattle.records.proofs.list.MonomialList.is_above_next.Goals as goal

pub returns-then-i-self : goal.returns-then-i-self
returns-then-i-self c =
    let l = c.args.self.now in let h : l.count ≤ c.args.i + 1 = omega arith in
    rw (listed_end l.width l.count (c.args.i + 1) l.cells.now h) (eq-eqb c.args.i (l.count - 1) c.if-i-self.true)

pub returns-else-i-self : goal.returns-else-i-self
returns-else-i-self c =
    let l = c.args.self.now in let i = c.args.i in let h : i + 1 < l.count = omega arith in
    c.eq.ensures ∙ rw (listed_next l.width l.count (i + 1) l.cells.now h) (greater_told (degrevlex (member l i) (member l (i + 1))) c.compare.result c.compare.ensures)
