use Rattle.std.proofs.Common.{arith}
use Rattle.numbers.proofs.AskedCells.{factor_fits, product_fits, product_is}
use Rattle.numbers.proofs.BothLists.{there}
use Rattle.numbers.proofs.asked.asked.Goals as goal

pub overflow_add-result : goal.overflow_add-result
overflow_add-result c =
    let e = c.extent-extent in
    factor_fits (there c.args.lists.now) e.result.pairs e.ensures.count

pub overflow_mul-result-2 : goal.overflow_mul-result-2
overflow_mul-result-2 c =
    let e = c.extent-extent in
    product_fits (there c.args.lists.now) e.result.pairs e.ensures.count

pub returns : goal.returns
returns c =
    let e = c.extent-extent in
    (product_is (there c.args.lists.now) e.result.pairs e.ensures.count, omega (arith, e.ensures.sum))
