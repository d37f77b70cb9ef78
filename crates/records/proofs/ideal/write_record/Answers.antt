-- `write_record` meets its contract, return by return. Rests on `record_out`.
use mathlib.Core.Path.{refl, ap, ◌∙◌}
use Rattle.std.specs.Prelude.{Err}
use lib.ListN.{length}
use Rattle.records.specs.Rows.{rows_at}
use Prim.Native.Nat.{◌+◌, ◌*◌}
use Rattle.monomials.specs.declared.refusal.Refusal.TheVariants.{Output}
use Rattle.records.proofs.Answers.{write_refused, write_done, write_short, write_passes, size_is, record_out}
use Rattle.records.proofs.ideal.write_record.Goals as goal

pub returns-then-out-size : goal.returns-then-out-size
returns-then-out-size c =
    let a = c.args in let ps = c.as_slice-chosen.result.now in let e = ap (rows_at a.n a.cells.now) c.as_slice-chosen.ensures ∙ c.choose.ensures.rows in
    let z = size_is a.n a.s a.cells.now ps c.if-cells-s.false e in
    let o = write_refused 255 60 a.n a.s a.cells.now a.out.now Output (Err Output) refl (write_short 255 60 a.n a.s a.cells.now a.out.now c.if-n-gt-MAX_WIDTH.false c.if-s-gt-MAX_COUNT.false c.if-cells-s.false (rw (← z) c.if-out-size.true)) in
    record { value = o.0; out_after = o.1 }

pub returns : goal.returns
returns c =
    let a = c.args in let ps = c.as_slice-chosen.result.now in let e = ap (rows_at a.n a.cells.now) c.as_slice-chosen.ensures ∙ c.choose.ensures.rows in
    let z = size_is a.n a.s a.cells.now ps c.if-cells-s.false e in
    let o = write_done 255 60 a.n a.s a.cells.now a.out.now (7 + 2 * (length ps * a.n)) c.put_rows.new.out (write_passes 255 60 a.n a.s a.cells.now a.out.now c.if-n-gt-MAX_WIDTH.false c.if-s-gt-MAX_COUNT.false c.if-cells-s.false (rw (← z) c.if-out-size.false)) z (c.put_rows.ensures ∙ rw c.put_header.ensures (record_out a.n a.s a.cells.now ps c.if-cells-s.false e a.out.now c.if-out-size.false)) in
    record { value = o.0; out_after = o.1 }
