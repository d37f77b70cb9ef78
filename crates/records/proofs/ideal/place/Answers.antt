-- `place` meets its contract, return by return. Rests on `part_end`.
use native.Mathlib.Omega.{arith}
use mathlib.Core.Path.{sym, ap, ◌∙◌}
use Prim.Native.Nat.{ℕ, ◌*◌}
use lib.ListN.{get_or}
use Rattle.laws.proofs.Reading.{bytes_by, record_tests}
use Rattle.records.proofs.Cells.{part_end}
use Rattle.records.proofs.ideal.place.Goals as goal

pub slice_bounds-result-end-2 : goal.slice_bounds-result-end-2
slice_bounds-result-end-2 c =
    let t = (record_tests 60 c.args.rec.now (bytes_by c.args.rec.now (λ i l. omega (arith, c.type_inv.rec i)))).0 (sym c.is_record.ensures ∙ c.if-not-is_record.false) in let h = rw c.from-m.ensures at c.if-m-k.false in let e = part_end c.from-n.result (get_or c.args.rec.now 6 0) c.args.k h in let u = ap (λ (w : ℕ). get_or c.args.rec.now 6 0 * w) c.from-n.ensures in omega (arith, t.total, e, u)
