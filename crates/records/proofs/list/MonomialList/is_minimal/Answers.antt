-- `is_minimal` meets its contract: each place is asked.
use native.Mathlib.Omega.{arith}
use mathlib.Core.Path.{refl, ◌∙◌}
use mathlib.Core.Bool.{not}
use borrow.Author.Rules.{rules}
use borrow.Author.Tests.{tests}
use Rattle.std.specs.List.{range_with_len}
use Rattle.std.proofs.lemmas.Iterator.{YieldsList-from_range}
use Rattle.std.proofs.lemmas.Iterator.Search.{all_from_yields_List}
use Rattle.laws.specs.Minimal.{proper}
use Rattle.records.specs.Rows.{member}
use Rattle.records.proofs.Cells.{rows_listed, all_minimal}
use Rattle.records.proofs.list.MonomialList.is_minimal.Goals as goal

pub returns : goal.returns
returns c =
    let l = c.args.self.now in let a = member l c.args.i in
    all_from_yields_List (λ j. not (proper (member l j) a)) _ _ _ c.all.ensures.ran (YieldsList-from_range 0 l.count l.count refl (omega arith)) (λ x b q k. search (rules, tests))
    ∙ all_minimal l.width l.cells.now a (range_with_len 0 l.count)
    ∙ rw (rows_listed l.width l.count l.cells.now l.count 0 (omega arith)) refl
