use Rattle.std.proofs.Common.{le_refl, arith}
use Rattle.laws.proofs.Column.{pairwise_coprime}
use Rattle.numbers.proofs.pivot.shared.Goals as goal

pub returns : goal.returns
returns c =
    let l = c.args.list.now in
    pairwise_coprime l.n l.count l.cells.now l.in_cells (λ z h. c.loop-v.invariant z (omega arith)) l.count (le_refl l.count)
