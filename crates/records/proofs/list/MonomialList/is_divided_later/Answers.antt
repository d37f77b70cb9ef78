-- `is_divided_later` meets its contract: each later place is asked.
use native.Mathlib.Omega.{arith}
use mathlib.Core.Path.{refl, ◌∙◌}
use Prim.Native.Nat.{◌+◌, ◌-◌}
use borrow.Author.Rules.{rules}
use borrow.Author.Tests.{tests}
use Rattle.std.specs.List.{range_with_len}
use Rattle.std.proofs.lemmas.Iterator.{YieldsList-from_range}
use Rattle.std.proofs.lemmas.Iterator.Search.{any_from_yields_List}
use Rattle.laws.specs.Monomial.{divides}
use Rattle.records.specs.Rows.{member}
use Rattle.records.proofs.Cells.{rows_listed, any_multiple}
use Rattle.records.proofs.list.MonomialList.is_divided_later.Goals as goal

pub returns : goal.returns
returns c =
    let l = c.args.self.now in let i = c.args.i in let u = member l i in let k = l.count - (i + 1) in
    any_from_yields_List (λ j. divides (member l j) u) _ _ _ c.any.ensures.ran (YieldsList-from_range (i + 1) l.count k refl refl) (λ x b q k. search (rules, tests))
    ∙ any_multiple l.width l.cells.now u (range_with_len (i + 1) k)
    ∙ rw (rows_listed l.width l.count l.cells.now k (i + 1) (omega arith)) refl
