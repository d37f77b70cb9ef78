use Rattle.std.proofs.Common.{rules, refl, ℕ, ◌+◌, ◌*◌, replicate, pos, sym, ap, ◌∙◌, length-take-le}
use Rattle.laws.specs.Ideal.{listed}
use Rattle.numbers.proofs.DimensionCall.{found, gives, leaves, list_size, room_size, stops_sums}
use Rattle.numbers.proofs.RoomsCall.{one_asked, passed, stops_rooms}
use Rattle.std.specs.Prelude.{Ok, Err}
use Rattle.monomials.specs.declared.refusal.Refusal.TheVariants.{SumRoom}
use Rattle.numbers.proofs.dimension.quotient_dimension.Goals as goal

pub returns-then-sums-w : goal.returns-then-sums-w
returns-then-sums-w c =
    let a = c.args in
    let L = listed a.n a.s a.cells.now in
    let d = c.in-Bound.d in
    let k = c.in_ok-asked.asked in
    let f = found _ _ _ _ _ c.in_ok-decision.ensures c.in-Bound.is in
    let h = passed c.in_ok-asked.ensures in
    let size = one_asked a.n a.s a.cells.now a.room.now a.first.now a.second.now a.sums.now k.coefficients h.coefficients_are in
    let left = stops_sums a.n L a.room.now a.first.now a.second.now a.sums.now k.cells k.coefficients d h.cells_are size f.bounded.bound h.room_lent h.first_lent h.second_lent
    (Err SumRoom) c.if-sums-w.true refl in
    let all = leaves 255 60 65536 a.n a.s a.cells.now a.room.now a.first.now a.second.now a.sums.now f.none (Err SumRoom) _ _ _ _ f.later left in
    record { value = all.0; room_after = all.1.0; first_after = all.1.1.0; second_after = all.1.1.1.0; sums_after = all.1.1.1.1 }

pub slice_bounds-dimension_in-end : goal.slice_bounds-dimension_in-end
slice_bounds-dimension_in-end c = (passed c.in_ok-asked.ensures).room_lent

pub slice_bounds-dimension_in-end-2 : goal.slice_bounds-dimension_in-end-2
slice_bounds-dimension_in-end-2 c =
    let h = passed c.in_ok-asked.ensures in sym (length-take-le c.in_ok-asked.asked.cells c.args.room.now h.room_lent)

pub slice_bounds-dimension_in-end-3 : goal.slice_bounds-dimension_in-end-3
slice_bounds-dimension_in-end-3 c = (passed c.in_ok-asked.ensures).first_lent

pub slice_bounds-dimension_in-end-4 : goal.slice_bounds-dimension_in-end-4
slice_bounds-dimension_in-end-4 c =
    let h = passed c.in_ok-asked.ensures in sym (length-take-le c.in_ok-asked.asked.coefficients c.args.first.now h.first_lent)

pub slice_bounds-dimension_in-end-5 : goal.slice_bounds-dimension_in-end-5
slice_bounds-dimension_in-end-5 c = (passed c.in_ok-asked.ensures).second_lent

pub slice_bounds-dimension_in-end-6 : goal.slice_bounds-dimension_in-end-6
slice_bounds-dimension_in-end-6 c =
    let h = passed c.in_ok-asked.ensures in sym (length-take-le c.in_ok-asked.asked.coefficients c.args.second.now h.second_lent)

pub invariant_of-list : goal.invariant_of-list
invariant_of-list c = record { checked = (found _ _ _ _ _ c.in_ok-decision.ensures c.in-Bound.is).there }

pub dimension_in-dimension-requires : goal.dimension_in-dimension-requires
dimension_in-dimension-requires c =
    let a = c.args in
    let L = listed a.n a.s a.cells.now in
    let d = c.in-Bound.d in
    let k = c.in_ok-asked.asked in
    let f = found _ _ _ _ _ c.in_ok-decision.ensures c.in-Bound.is in
    let h = passed c.in_ok-asked.ensures in
    let size = one_asked a.n a.s a.cells.now a.room.now a.first.now a.second.now a.sums.now k.coefficients h.coefficients_are in
    let lent = length-take-le k.cells a.room.now h.room_lent in
    let first = length-take-le k.coefficients a.first.now h.first_lent in
    let second = length-take-le k.coefficients a.second.now h.second_lent in
    let cells = room_size a.n L a.room.now a.first.now a.second.now a.sums.now k.cells k.coefficients d h.cells_are size f.bounded.bound in
    let coefficients = list_size a.n L a.room.now a.first.now a.second.now a.sums.now k.cells k.coefficients d h.cells_are size f.bounded.bound in
    record {
      bounded = f.bounded;
      lent = record {
        cells = lent ∙ cells;
        first = first ∙ coefficients;
        second = second ∙ coefficients;
        words = length-take-le (2 * (d + 1)) a.sums.now c.if-sums-w.false;
      };
    }

pub returns : goal.returns
returns c =
    let a = c.args in
    let L = listed a.n a.s a.cells.now in
    let d = c.in-Bound.d in
    let k = c.in_ok-asked.asked in
    let f = found _ _ _ _ _ c.in_ok-decision.ensures c.in-Bound.is in
    let h = passed c.in_ok-asked.ensures in
    let size = one_asked a.n a.s a.cells.now a.room.now a.first.now a.second.now a.sums.now k.coefficients h.coefficients_are in
    let v = c.dimension_in-dimension in
    let i = c.if-sums-w.false in
    let zeros = λ (j : ℕ). replicate j 0 in
    let none = λ (j : ℕ). replicate j (pos 0) in
    let left = gives a.n L a.room.now a.first.now a.second.now a.sums.now k.cells k.coefficients d h.cells_are size f.bounded.bound h.room_lent h.first_lent h.second_lent f.bounded.plain i
    (Ok (record { dimension = v.result; top = d })) v.result v.new.room v.new.first v.new.second v.new.sums refl v.ensures.value
    (v.ensures.room_after ∙ ap zeros (length-take-le k.cells a.room.now h.room_lent))
    (v.ensures.first_after ∙ ap none (length-take-le k.coefficients a.first.now h.first_lent))
    (v.ensures.second_after ∙ ap none (length-take-le k.coefficients a.second.now h.second_lent))
    (v.ensures.sums_after ∙ ap zeros (length-take-le (2 * (d + 1)) a.sums.now i)) in
    let all = leaves 255 60 65536 a.n a.s a.cells.now a.room.now a.first.now a.second.now a.sums.now f.none (Ok (record { dimension = v.result; top = d })) _ _ _ _ f.later left in
    record { value = all.0; room_after = all.1.0; first_after = all.1.1.0; second_after = all.1.1.1.0; sums_after = all.1.1.1.1 }

pub returns-in_err-asked : goal.returns-in_err-asked
returns-in_err-asked c =
    let a = c.args in
    let f = found _ _ _ _ _ c.in_ok-decision.ensures c.in-Bound.is in
    let left = stops_rooms a.n a.s a.cells.now a.room.now a.first.now a.second.now a.sums.now f.there c.in_err-asked.field-0.0 c.from_residual-in_err-asked.result c.in_err-asked.ensures (search rules) in
    let all = leaves 255 60 65536 a.n a.s a.cells.now a.room.now a.first.now a.second.now a.sums.now f.none c.from_residual-in_err-asked.result _ _ _ _ f.later left in
    record { value = all.0; room_after = all.1.0; first_after = all.1.1.0; second_after = all.1.1.1.0; sums_after = all.1.1.1.1 }
