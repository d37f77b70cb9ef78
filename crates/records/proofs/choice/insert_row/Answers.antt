-- `insert_row` meets its contract: the monomial is there, or its place is put at its seat. Rests on `insert_there` and `inserted`.
use mathlib.Core.Path.{sym, ◌∙◌}
use Rattle.records.specs.Rows.{member, members_at}
use Rattle.records.proofs.Choosing.{insert_there, inserted, inserted_below}
use Rattle.records.proofs.choice.insert_row.Goals as goal

pub returns-then-not-is_there-clause-rows : goal.returns-then-not-is_there-clause-rows
returns-then-not-is_there-clause-rows c =
    let l = c.args.list.now in
    inserted l.width c.seat-p.result c.args.i l.cells.now c.args.places.now c.insert.new.self c.insert.ensures
    (rw c.as_slice.ensures at c.seat-p.ensures.seat)
    (rw c.as_slice-2.ensures at (sym c.is_there.ensures ∙ c.if-not-is_there.true))

pub returns-then-not-is_there-clause-below : goal.returns-then-not-is_there-clause-below
returns-then-not-is_there-clause-below c =
    rw c.insert.ensures (inserted_below c.args.list.now.count c.seat-p.result c.args.i c.args.places.now c.requires.below c.requires.there.0)

pub returns-else-not-is_there-clause-rows : goal.returns-else-not-is_there-clause-rows
returns-else-not-is_there-clause-rows c =
    let l = c.args.list.now in
    sym (insert_there (member l c.args.i) (members_at l c.args.places.now)
    (rw (c.as_slice-2.ensures, c.seat-p.ensures.seat, c.as_slice.ensures) at (sym c.is_there.ensures ∙ c.if-not-is_there.false)))
