-- `copy_record` meets its contract, return by return.
use native.Mathlib.Omega.{arith}
use mathlib.Core.Path.{sym, ◌∙◌}
use Rattle.laws.proofs.Reading.{bytes_by, record_tests}
use Rattle.records.proofs.ideal.copy_record.Goals as goal

pub copy_cells-requires : goal.copy_cells-requires
copy_cells-requires c =
    let t = (record_tests 60 c.args.rec.now (bytes_by c.args.rec.now (λ i l. omega (arith, c.type_inv.rec i)))).0 (sym c.is_record.ensures ∙ c.if-not-is_record.false) in (rw (c.from-m.ensures, c.from-n.ensures) t.total, c.if-cells-count.false)
