-- The chain sums the exponents. Rests on `degree_sum`.
use mathlib.Core.Path.{◌∙◌}
use Rattle.std.proofs.Common.{rules}
use borrow.Author.Tests.{tests}
use Rattle.std.proofs.lemmas.Iterator.{YieldsList-from_slice, YieldsList-from_map}
use Rattle.std.proofs.lemmas.Iterator.Consumers.{sum_by_from_yields_List}
use Rattle.monomials.proofs.Pairs.{degree_sum}
use Rattle.monomials.proofs.monomial.degree_of.Goals as goal

pub returns : goal.returns
returns c =
    sum_by_from_yields_List (λ x. x) c.args.a.now c.map.result c.sum.result c.sum.ensures.ran (YieldsList-from_map _ (λ x. x) (YieldsList-from_slice c.args.a.now (cc)) c.map.ensures.closure (λ x r q k. search (rules, tests)))
    ∙ degree_sum c.args.a.now
