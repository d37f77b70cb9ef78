use Rattle.std.proofs.Common.{ℕ, List, subst, ◌<◌, length, get_or, ap, ◌∙◌, arith}
use Rattle.laws.proofs.Columns.{joined_first, joined_none, single_none}
use Rattle.laws.proofs.Rows.{Wrote, at_length}
use Rattle.numbers.proofs.Runs.{wrote_whole}
use Rattle.numbers.proofs.columns.put_first.Goals as goal

pub returns-then-list-eq0 : goal.returns-then-list-eq0
returns-then-list-eq0 c =
    let a = c.args.list.now in
    (c.requires.0, omega arith, joined_none a.n a.count a.cells.now c.args.us.now c.requires.1, single_none a.n a.count a.cells.now)

pub copy_from_slice-requires : goal.copy_from_slice-requires
copy_from_slice-requires c =
    let a = c.args.list.now in
    omega (arith, ap length c.row.ensures, at_length a.n a.count 0 a.cells.now (omega (arith, c.if-list-eq0.false)) a.in_cells)

pub returns : goal.returns
returns c =
    let a = c.args.list.now in
    let h : 0 < a.count = omega (arith, c.if-list-eq0.false) in
    let us = c.args.us.now in
    let m = c.row.result.now in
    let new = c.copy_from_slice.new.self in
    let e = c.requires.0 in
    let w = wrote_whole us new (λ j. get_or m j 0) c.copy_from_slice.ensures.len (λ j l. ap (λ (k : List ℕ). get_or k j 0) c.copy_from_slice.ensures.after) in
    let f = joined_first a.n a.count a.cells.now us new m h c.row.ensures c.requires.1 (subst (λ (k : ℕ). Wrote us (λ j. get_or m j 0) 0 k new) e w) in (w.len ∙ e, h, f.0, f.1)
