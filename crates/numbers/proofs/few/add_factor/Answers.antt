use Rattle.laws.proofs.Few.{factor_sums}
use Rattle.numbers.proofs.few.add_factor.Goals as goal

pub returns : goal.returns
returns c =
    factor_sums c.args.seed.now c.args.shift c.args.d c.args.neg c.args.out.now c.add_shifted.new.out c.add_shifted-2.new.out c.add_shifted.ensures c.add_shifted-2.ensures
