use Rattle.std.proofs.Common.{ap, ◌∙◌, lt_of_lt_of_le}
use Rattle.laws.specs.Mask.{mask}
use Rattle.numbers.proofs.MaskArray.{masks_next}
use Rattle.numbers.proofs.masks.masks_of.Goals as goal

pub loop-i-preserved : goal.loop-i-preserved
loop-i-preserved c =
    let a = c.args.list.now in
    let l = c.loop-i in
    let most = c.greatest_of-most.result in
    masks_next a.n most a.cells.now l.i (lt_of_lt_of_le c.loop-i-test.true c.requires.0) l.m c.two_words.result (c.two_words.ensures ∙ ap (mask a.n most) c.row.ensures) l.invariant
