use Rattle.std.proofs.Common.{◌*◌, refl}
use Rattle.numbers.proofs.QuotientCells.{carries_divided}
use Rattle.numbers.proofs.quotients.quotients.Goals as goal

pub returns : goal.returns
returns c =
    let l = c.args.lists.now in
    carries_divided l.n l.s l.t (l.t * l.n) c.minimalize.result l.xs.now l.ys.now c.args.g.now c.args.room.now c.put_quotients.new.room c.put_quotients-2.new.room c.minimalize.new.room c.requires.2 c.requires.0 l.second c.requires.1 refl c.put_quotients.ensures c.put_quotients-2.ensures c.minimalize.ensures
