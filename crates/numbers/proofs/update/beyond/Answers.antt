use Rattle.std.proofs.Common.{pos, refl, rules, nat_lt, nat_abs}
use Rattle.std.proofs.iter.runs.Made.{chains}
use Rattle.std.proofs.lemmas.List.Recursion.{or_is}
use Rattle.numbers.specs.Update.{beyond}
use Rattle.numbers.proofs.update.beyond.Goals as goal

pub returns : goal.returns
returns c =
    or_is (beyond 2305843009213693952) (λ z. nat_lt 2305843009213693952 (nat_abs z)) refl (λ z G. refl) c.args.given.now (pos 0) c.any.result (search (rules, chains)) (search (rules, chains))
