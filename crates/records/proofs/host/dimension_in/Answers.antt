-- `dimension_in` meets its contract: every record finds room in the cells, so copying refuses only what is no record.
use Rattle.std.proofs.Common.{rules, ◌*◌, ◌-◌, ◌≤◌, List, ℕ, length, take, drop, ◌∙◌, ◌≡◌, true, arith, length-take-le}
use lib.Pow.{are_bytes}
use Rattle.std.specs.Prelude.{Ok}
use Rattle.laws.specs.Record.{width_in, count_in}
use Rattle.laws.proofs.Reading.{bytes_by, record_tests}
use Rattle.records.specs.Ideal.{copy_answer}
use Rattle.records.specs.Rows.{Ample}
use Rattle.records.specs.declared.ideal.Shape.{Shape}
use Rattle.records.proofs.HostCall.{copied_shape, copied_refused, record_fits, record_dimension, no_record_dimension}
use Rattle.records.proofs.Standing.{copied_front}
use Rattle.records.proofs.host.dimension_in.Goals as goal

-- all that a shape tells finds room
room_for : (rec cells : List ℕ) (s : Shape) → are_bytes rec ≡ true → Ample rec cells → Ok s ≡ copy_answer 60 rec cells → s.m * s.n ≤ length cells
room_for rec cells s b a e =
    let (t, n, m, _) = copied_shape 60 rec cells s e in
    rw (n, m) (record_fits rec cells b a t)

pub returns-in_err-shape : goal.returns-in_err-shape
returns-in_err-shape c =
    let rec = c.args.rec.now in
    let x = c.in_err-shape.field-0.0 in
    let z = copied_refused 60 rec c.args.cells.now x c.in_err-shape.ensures.value (record_fits rec c.args.cells.now (bytes_by rec (λ i l. omega (arith, c.type_inv.rec i))) c.requires) in
    no_record_dimension 255 60 65536 rec x c.from_residual.result z.0 z.1 (search rules)

pub overflow_mul-end : goal.overflow_mul-end
overflow_mul-end c =
    let rec = c.args.rec.now in
    omega (arith, room_for rec c.args.cells.now c.in_ok-shape.shape (bytes_by rec (λ i l. omega (arith, c.type_inv.rec i))) c.requires c.in_ok-shape.ensures.value)

pub slice_bounds-list-end : goal.slice_bounds-list-end
slice_bounds-list-end c =
    let rec = c.args.rec.now in
    omega (arith, c.read_record.auto.cells, room_for rec c.args.cells.now c.in_ok-shape.shape (bytes_by rec (λ i l. omega (arith, c.type_inv.rec i))) c.requires c.in_ok-shape.ensures.value)

pub invariant_of-list : goal.invariant_of-list
invariant_of-list c =
    let rec = c.args.rec.now in
    let s = c.in_ok-shape.shape in
    let b = bytes_by rec (λ i l. omega (arith, c.type_inv.rec i)) in
    let z = copied_shape 60 rec c.args.cells.now s c.in_ok-shape.ensures.value in
    record {
      narrow = omega (arith, z.1, c.type_inv.rec 5);
      few = omega (arith, z.2, ((record_tests 60 rec b).0 z.0).few);
      filled = length-take-le (s.m * s.n) c.read_record.new.cells (omega (arith, c.read_record.auto.cells, room_for rec c.args.cells.now s b c.requires c.in_ok-shape.ensures.value));
    }

pub returns : goal.returns
returns c =
    let rec = c.args.rec.now in
    let s = c.in_ok-shape.shape in
    let q = c.read_record in
    let z = copied_shape 60 rec c.args.cells.now s c.in_ok-shape.ensures.value in
    record_dimension 255 60 65536 rec s.n s.m (take (s.m * s.n) q.new.cells) c.in_own_rooms.result z.0 z.1 z.2
    (copied_front (s.m * s.n) rec (drop (count_in rec * width_in rec) c.args.cells.now) q.new.cells (rw (z.1, z.2) ((record_tests 60 rec (bytes_by rec (λ i l. omega (arith, c.type_inv.rec i)))).0 z.0).total) (c.in_ok-shape.ensures.cells_after z.0 ∙ z.3))
    c.in_own_rooms.ensures
