use Rattle.std.proofs.Common.{rules, take, sym, refl, ◌∙◌, add-zero, arith, length-take-le}
use Rattle.laws.proofs.Asked.{enough}
use Rattle.numbers.proofs.NumeratorCall.{gives, is_cells, is_coefficients, refuses}
use Rattle.numbers.proofs.RoomsCall.{passed}
use Rattle.numbers.proofs.numerator.hilbert_numerator.Goals as goal
use Rattle.std.specs.Prelude.{Ok}

pub slice_bounds-numerator_in-end : goal.slice_bounds-numerator_in-end
slice_bounds-numerator_in-end c = (passed c.in_ok-asked.ensures).room_lent

pub slice_bounds-numerator_in-end-2 : goal.slice_bounds-numerator_in-end-2
slice_bounds-numerator_in-end-2 c =
    let h = passed c.in_ok-asked.ensures in sym (length-take-le c.in_ok-asked.asked.cells c.args.room.now h.room_lent)

pub slice_bounds-numerator_in-end-3 : goal.slice_bounds-numerator_in-end-3
slice_bounds-numerator_in-end-3 c = (passed c.in_ok-asked.ensures).first_lent

pub slice_bounds-numerator_in-end-4 : goal.slice_bounds-numerator_in-end-4
slice_bounds-numerator_in-end-4 c =
    let h = passed c.in_ok-asked.ensures in sym (length-take-le c.in_ok-asked.asked.coefficients c.args.first.now h.first_lent)

pub slice_bounds-numerator_in-end-5 : goal.slice_bounds-numerator_in-end-5
slice_bounds-numerator_in-end-5 c = (passed c.in_ok-asked.ensures).second_lent

pub slice_bounds-numerator_in-end-6 : goal.slice_bounds-numerator_in-end-6
slice_bounds-numerator_in-end-6 c =
    let h = passed c.in_ok-asked.ensures in sym (length-take-le c.in_ok-asked.asked.coefficients c.args.second.now h.second_lent)

pub invariant_of-list : goal.invariant_of-list
invariant_of-list c =
    let h = passed c.in_ok-asked.ensures in record { checked = record { there = h.first_there; width = h.width; count = omega (arith, h.count, add-zero c.args.s) } }

pub numerator_in-length-requires : goal.numerator_in-length-requires
numerator_in-length-requires c =
    let a = c.args in
    let k = c.in_ok-asked.asked in
    let h = passed c.in_ok-asked.ensures in
    let lent = length-take-le k.cells a.room.now h.room_lent in
    let first = length-take-le k.coefficients a.first.now h.first_lent in
    record {
      room_len = enough a.n a.s a.cells.now (take k.cells a.room.now) (lent ∙ is_cells a.n a.s a.cells.now a.room.now a.first.now a.second.now k h);
      first_len = (
        first ∙ is_coefficients a.n a.s a.cells.now a.room.now a.first.now a.second.now k h,
        length-take-le k.coefficients a.second.now h.second_lent ∙ sym first,
      );
    }

pub returns : goal.returns
returns c =
    let a = c.args in
    let k = c.in_ok-asked.asked in
    let h = passed c.in_ok-asked.ensures in
    let v = c.numerator_in-length in
    let lent = length-take-le k.cells a.room.now h.room_lent in
    let first = length-take-le k.coefficients a.first.now h.first_lent in
    let second = length-take-le k.coefficients a.second.now h.second_lent in
    let all = gives a.n a.s a.cells.now a.room.now a.first.now a.second.now k h _ _ _ v.result (Ok v.result) v.new.room v.new.first v.new.second
    lent first second refl v.ensures.value v.ensures.first_after v.ensures.second_after in
    record { value = all.0; room_after = all.1.0; first_after = all.1.1.0; second_after = all.1.1.1 }

pub returns-in_err-asked : goal.returns-in_err-asked
returns-in_err-asked c =
    let a = c.args in
    let all = refuses a.n a.s a.cells.now a.room.now a.first.now a.second.now c.in_err-asked.field-0.0 c.from_residual.result c.in_err-asked.ensures (search rules) in
    record { value = all.0; room_after = all.1.0; first_after = all.1.1.0; second_after = all.1.1.1 }
