use Rattle.std.proofs.Common.{◌∙◌, inl, inr, arith}
use Rattle.numbers.proofs.AskedColumns.{column_pairs, pairs_more, summed_next}
use Rattle.numbers.proofs.BothLists.{there}
use Rattle.numbers.proofs.extent.TwoLists.pairs_by_columns.Goals as goal
use Rattle.numbers.proofs.extent.TwoLists.pairs_by_columns.Goals.{then-u-gt1, else-u-gt1}

pub overflow_add-pairs : goal.overflow_add-pairs
overflow_add-pairs c =
    let l = c.loop-v in
    let t = there c.args.self.now in
    let e = column_pairs t l.v (omega (arith, c.requires.len)) c.requires c.if-u-gt1.pairs
    (elim c.if-u-gt1.branch [ then-u-gt1 w ↦ inl (w.if-u-gt1.true, w.pairs-is ∙ w.distinct.ensures) | else-u-gt1 w ↦ inr (w.if-u-gt1.false, w.pairs-is) ]) in
    pairs_more t l.v (omega (arith, c.requires.len)) l.pairs l.invariant c.if-u-gt1.pairs e

pub loop-v-preserved : goal.loop-v-preserved
loop-v-preserved c =
    let l = c.loop-v in
    let t = there c.args.self.now in
    let e = column_pairs t l.v (omega (arith, c.requires.len)) c.requires c.if-u-gt1.pairs
    (elim c.if-u-gt1.branch [ then-u-gt1 w ↦ inl (w.if-u-gt1.true, w.pairs-is ∙ w.distinct.ensures) | else-u-gt1 w ↦ inr (w.if-u-gt1.false, w.pairs-is) ]) in
    summed_next t l.v (omega (arith, c.requires.len)) l.pairs l.invariant c.if-u-gt1.pairs e
