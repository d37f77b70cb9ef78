-- `stand` meets its contract: each place is asked. Rests on `all_stand`.
use native.Mathlib.Omega.{arith}
use mathlib.Core.Path.{refl, ◌∙◌}
use mathlib.Core.Bool.{not, ◌&&◌}
use Prim.Native.Nat.{◌+◌}
use lib.ListN.{drop}
use borrow.Author.Rules.{rules}
use borrow.Author.Tests.{tests}
use Rattle.std.proofs.lemmas.Iterator.{YieldsList-from_range}
use Rattle.std.proofs.lemmas.Iterator.Search.{all_from_yields_List}
use Rattle.laws.specs.Ideal.{multiple}
use Rattle.records.specs.Rows.{member, members, above}
use Rattle.records.proofs.Standing.{all_stand}
use Rattle.records.proofs.list.MonomialList.stand.Goals as goal

pub returns : goal.returns
returns c =
    let l = c.args.self.now in
    all_from_yields_List (λ i. above (member l i) (drop (i + 1) (members l)) && not (multiple (drop (i + 1) (members l)) (member l i))) _ _ _ c.all.ensures.ran (YieldsList-from_range 0 l.count l.count refl (omega arith)) (λ x b q k. search (rules, tests))
    ∙ all_stand l.width l.count l.cells.now l.count 0 (omega arith)
