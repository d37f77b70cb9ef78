use Rattle.std.proofs.Common.{sym, ap, ◌∙◌}
use Rattle.numbers.proofs.MaskArray.{words_are, words_of}
use Rattle.numbers.proofs.masks.two_words.Goals as goal

pub returns-in-Ok : goal.returns-in-Ok
returns-in-Ok c =
    let a = c.args in
    ap words_of (sym c.in-Ok.is) ∙ words_are a.n a.most a.row.now c.mask-answer.result c.requires c.mask-answer.ensures

pub returns-in-Err : goal.returns-in-Err
returns-in-Err c =
    let a = c.args in
    ap words_of (sym c.in-Err.is) ∙ words_are a.n a.most a.row.now c.mask-answer.result c.requires c.mask-answer.ensures
