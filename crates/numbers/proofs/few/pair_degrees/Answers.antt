use Rattle.std.proofs.Common.{get_or, refl, arith}
use Rattle.numbers.proofs.Tally.{tallies_all, tallies_next}
use Rattle.numbers.proofs.few.pair_degrees.Goals as goal

pub loop-i-preserved : goal.loop-i-preserved
loop-i-preserved c =
    let i = c.loop-i.i in
    tallies_next c.loop-i.invariant c.requires.0 (get_or c.args.a.now i 0) (get_or c.args.b.now i 0) c.add.new.self (omega arith) refl refl (omega arith) (omega arith) c.add.ensures

pub returns : goal.returns
returns c = tallies_all c.loop-i.invariant c.requires.0 c.loop-i-test.false (omega arith) c.requires.1
