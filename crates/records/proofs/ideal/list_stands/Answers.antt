-- `list_stands` meets its contract: a header that stands tells how many exponents are copied. Rests on `record_list_stands`.
use native.Mathlib.Omega.{arith}
use mathlib.Core.Path.{ap, ◌∙◌}
use mathlib.Core.List.{List}
use Prim.Native.Nat.{ℕ, ◌*◌}
use lib.ListN.{drop}
use Rattle.laws.specs.Ideal.{listed}
use Rattle.laws.proofs.Reading.{bytes_by}
use Rattle.records.specs.Rows.{stands}
use Rattle.records.proofs.Standing.{record_list_stands, header_total, copied_front}
use Rattle.records.proofs.ideal.list_stands.Goals as goal

pub returns : goal.returns
returns c =
    let rec = c.args.rec.now in let h = c.requires.0 in let n = c.from-n.result in let m = c.from-m.result in record {
      value = c.stand.ensures
          ∙ ap (λ (d : List ℕ). stands (listed n m d)) (copied_front (m * n) rec (drop (m * n) c.args.cells.now) c.copy_cells.new.cells (rw (c.from-m.ensures, c.from-n.ensures) (header_total 60 rec h)) c.copy_cells.ensures)
          ∙ rw (c.from-m.ensures, c.from-n.ensures) (record_list_stands 60 rec (bytes_by rec (λ i l. omega (arith, c.type_inv.rec i))) h);
      cells_after = rw (c.from-m.ensures, c.from-n.ensures) at c.copy_cells.ensures;
    }
