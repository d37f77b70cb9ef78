use Rattle.numbers.proofs.ToLaws.{quotients_next, quotients_one}
use Rattle.numbers.proofs.few.quotients.Goals as goal

pub returns-then-divide : goal.returns-then-divide
returns-then-divide c =
    quotients_one c.args.n c.args.k c.args.room.now c.requires c.loop-i.i c.loop-i-test.true c.loop-i.room c.divide.new.room c.loop-i.invariant c.divide.ensures.wrote (c.divide.ensures.unit_left c.if-divide.true)

pub loop-i-preserved : goal.loop-i-preserved
loop-i-preserved c =
    quotients_next c.args.n c.args.k c.args.room.now c.requires c.loop-i.i c.loop-i-test.true c.loop-i.room c.divide.new.room c.loop-i.invariant c.divide.ensures.wrote
