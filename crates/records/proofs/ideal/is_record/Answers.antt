-- `is_record` meets its contract: the header stands, and so does the list.
use native.Mathlib.Omega.{arith}
use mathlib.Core.Path.{sym, ◌∙◌}
use Rattle.laws.proofs.Reading.{bytes_by}
use Rattle.records.proofs.Standing.{record_header_falls}
use Rattle.records.proofs.ideal.is_record.Goals as goal

pub returns-then-not-header_stands : goal.returns-then-not-header_stands
returns-then-not-header_stands c =
    let rec = c.args.rec.now in record_header_falls 60 rec (bytes_by rec (λ i l. omega (arith, c.type_inv.rec i))) (sym c.header_stands.ensures ∙ c.if-not-header_stands.true)
