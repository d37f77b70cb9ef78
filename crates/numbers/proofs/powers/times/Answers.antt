use Rattle.numbers.proofs.LeastPowers.{times_some, times_none}
use Rattle.numbers.proofs.powers.times.Goals as goal

pub returns-in-Some : goal.returns-in-Some
returns-in-Some c = λ q e. times_some q c.args.x c.args.product e c.in-Some.w c.times.result c.in-Some.is c.times.ensures

pub returns-in-None : goal.returns-in-None
returns-in-None c = λ q e. times_none q c.args.x c.args.product e c.requires c.in-None.is
