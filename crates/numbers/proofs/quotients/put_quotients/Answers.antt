use Rattle.std.proofs.Common.{◌-◌, ◌%◌, length, get_or, inl, inr, arith}
use Rattle.laws.proofs.Rows.{wrote_more}
use Rattle.numbers.proofs.QuotientCells.{cell_less, place_in, turned}
use Rattle.numbers.proofs.quotients.put_quotients.Goals as goal
use Rattle.numbers.proofs.quotients.put_quotients.Goals.{then-v-g, else-v-g}

pub loop-i-preserved : goal.loop-i-preserved
loop-i-preserved c =
    let a = c.args in
    let l = c.loop-i in
    let cells = a.cells.now in
    let g = a.g.now in
    let t = turned (length g) l.i l.v c.if-v-g.v (place_in cells g c.requires.1 l.i l.v c.loop-i-test.true l.invariant.0) l.invariant.0
    (elim c.if-v-g.branch [ then-v-g w ↦ inl (w.if-v-g.true, w.v-is) | else-v-g w ↦ inr (w.if-v-g.false, w.v-is) ]) in
    (t.1, wrote_more a.room.now (λ j. get_or cells j 0 - get_or g (j % length g) 0) a.to l.i c.saturating_sub.result l.room (omega arith) (cell_less cells g c.requires.1 l.i l.v c.loop-i-test.true l.invariant.0 c.saturating_sub.result c.saturating_sub.ensures) l.invariant.1)
