use Rattle.laws.proofs.Few.{pair_sums}
use Rattle.numbers.proofs.few.add_pair.Goals as goal

pub returns : goal.returns
returns c =
    let d = c.args.d in
    pair_sums c.args.seed.now c.args.shift d.a d.b d.ab c.args.neg c.args.out.now c.add_factor.new.out c.add_factor-2.new.out c.add_factor.ensures c.add_factor-2.ensures
