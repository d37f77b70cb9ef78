-- `read_record` meets its contract: the header and the list decide, and ample cells refuse no record.
use native.Mathlib.Omega.{arith}
use mathlib.Core.Path.{refl, sym, ◌∙◌}
use Rattle.std.specs.Prelude.{Err}
use Rattle.monomials.specs.declared.refusal.Refusal.TheVariants.{Record}
use Rattle.laws.proofs.Reading.{bytes_by}
use Rattle.records.proofs.Answers.{read_refused}
use Rattle.records.proofs.Standing.{record_header_falls}
use Rattle.records.proofs.ideal.read_record.Goals as goal

pub returns-then-not-header_stands : goal.returns-then-not-header_stands
returns-then-not-header_stands c =
    let rec = c.args.rec.now in let cells = c.args.cells.now in
    let o = read_refused 60 rec cells cells (Err Record) refl (sym (record_header_falls 60 rec (bytes_by rec (λ i l. omega (arith, c.type_inv.rec i))) (sym c.header_stands.ensures ∙ c.if-not-header_stands.true))) in
    record { value = o.0; cells_after = o.1 }
