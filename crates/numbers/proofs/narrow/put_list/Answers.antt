use Rattle.std.proofs.Common.{length-take-le}
use Rattle.laws.proofs.Lists.{replicate_constant, take_constant}
use Rattle.laws.proofs.Narrow.{narrowed_copy}
use Rattle.numbers.proofs.narrow.put_list.Goals as goal

pub returns-then-n-list : goal.returns-then-n-list
returns-then-n-list c =
    let l = c.args.list.now in
    narrowed_copy l.n l.count l.cells.now c.args.room.now _ l.checked.there c.requires c.put_cells.ensures

pub put_used-requires-clause-zeros : goal.put_used-requires-clause-zeros
put_used-requires-clause-zeros c =
    let l = c.args.list.now in
    (length-take-le _ _ l.checked.width, length-take-le _ _ l.checked.width, take_constant 0 _ l.n (replicate_constant 0 255))
