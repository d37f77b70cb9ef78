use Rattle.numbers.proofs.AskedCells.{degree_both, degrees_most, pairs_both}
use Rattle.numbers.proofs.extent.TwoLists.of_two.Goals as goal

pub returns : goal.returns
returns c =
    let x = c.args.self.now in
    let p = c.added-first in
    let q = c.added-second in
    record {
      count = pairs_both x.n x.s x.xs.now x.t x.ys.now p.result.pairs q.result.pairs p.ensures.pairs_added.0 q.ensures.pairs_added.0;
      sum = degree_both x.n x.s x.xs.now x.t x.ys.now p.result.degree q.result.degree p.ensures.degree_added.0 q.ensures.degree_added.0;
      most = degrees_most p.result.degree q.result.degree p.ensures.degree_added.1 q.ensures.degree_added.1;
    }
