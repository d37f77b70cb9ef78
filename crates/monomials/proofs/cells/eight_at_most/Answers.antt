-- The chain tests each pair. Rests on `fold_divides`.
use mathlib.Core.Path.{◌∙◌}
use mathlib.Core.Bool.{true, ◌&&◌}
use native.Mathlib.Omega.{arith}
use lib.Dec.{leb}
use Rattle.std.proofs.Common.{rules}
use borrow.Author.Tests.{tests}
use Rattle.std.proofs.lemmas.Iterator.{YieldsList-from_slice, YieldsList-from_zip}
use Rattle.std.proofs.lemmas.Iterator.Consumers.{fold_from_yields_List}
use Rattle.monomials.proofs.Pairs.{fold_divides}
use Rattle.monomials.proofs.cells.eight_at_most.Goals as goal

pub returns : goal.returns
returns c =
    fold_from_yields_List _ (λ t p. t && leb p.0 p.1) true c.fold.result c.fold.ensures.ran (YieldsList-from_zip (YieldsList-from_slice c.args.a.now (cc)) (YieldsList-from_slice c.args.b.now (cc))) (λ t x r q k. search (rules, tests))
    ∙ fold_divides true c.args.a.now c.args.b.now (omega arith)
