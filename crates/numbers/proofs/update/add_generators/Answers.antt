use Rattle.std.proofs.Common.{rules, ◌+◌, take, sym, refl, ◌∙◌, le_of_eq, length-take-le}
use Rattle.laws.proofs.Asked.{enough_both}
use Rattle.numbers.proofs.RoomsCall.{passed}
use Rattle.numbers.proofs.ToLaws.{count_within}
use Rattle.numbers.proofs.UpdateCall.{gives, refuses, within}
use Rattle.numbers.proofs.update.add_generators.Goals as goal
use Rattle.std.specs.Prelude.{Ok}

pub slice_bounds-update_in-end : goal.slice_bounds-update_in-end
slice_bounds-update_in-end c = (passed c.in_ok-asked.ensures).room_lent

pub slice_bounds-update_in-end-2 : goal.slice_bounds-update_in-end-2
slice_bounds-update_in-end-2 c =
    let h = passed c.in_ok-asked.ensures in sym (length-take-le c.in_ok-asked.asked.cells c.args.room.now h.room_lent)

pub slice_bounds-update_in-end-3 : goal.slice_bounds-update_in-end-3
slice_bounds-update_in-end-3 c = (passed c.in_ok-asked.ensures).first_lent

pub slice_bounds-update_in-end-4 : goal.slice_bounds-update_in-end-4
slice_bounds-update_in-end-4 c =
    let h = passed c.in_ok-asked.ensures in sym (length-take-le c.in_ok-asked.asked.coefficients c.args.first.now h.first_lent)

pub slice_bounds-update_in-end-5 : goal.slice_bounds-update_in-end-5
slice_bounds-update_in-end-5 c = (passed c.in_ok-asked.ensures).second_lent

pub slice_bounds-update_in-end-6 : goal.slice_bounds-update_in-end-6
slice_bounds-update_in-end-6 c =
    let h = passed c.in_ok-asked.ensures in sym (length-take-le c.in_ok-asked.asked.coefficients c.args.second.now h.second_lent)

pub invariant_of-lists : goal.invariant_of-lists
invariant_of-lists c =
    let h = passed c.in_ok-asked.ensures in
    record { first = le_of_eq (sym h.first_there); second = le_of_eq (sym h.second_there); width = h.width; count = count_within (c.args.s0 + c.args.s1) h.count }

pub update_in-length-requires : goal.update_in-length-requires
update_in-length-requires c =
    let a = c.args in
    let k = c.in_ok-asked.asked in
    let h = passed c.in_ok-asked.ensures in
    let lent = length-take-le k.cells a.room.now h.room_lent in
    let first = length-take-le k.coefficients a.first.now h.first_lent in
    record {
      existing_len = (h.first_there, h.count);
      room_len = enough_both a.n a.s0 a.existing.now a.s1 a.added.now (take k.cells a.room.now) (lent ∙ h.cells_are);
      first_len = (
        first ∙ h.coefficients_are,
        length-take-le k.coefficients a.second.now h.second_lent ∙ sym first,
        within 2305843009213693952 a.given.now (sym c.beyond.ensures ∙ h.small),
      );
    }

pub returns : goal.returns
returns c =
    let a = c.args in
    let k = c.in_ok-asked.asked in
    let h = passed c.in_ok-asked.ensures in
    let v = c.update_in-length in
    let lent = length-take-le k.cells a.room.now h.room_lent in
    let first = length-take-le k.coefficients a.first.now h.first_lent in
    let second = length-take-le k.coefficients a.second.now h.second_lent in
    let all = gives 2305843009213693952 a.n a.given.now a.s0 a.existing.now a.s1 a.added.now a.room.now a.first.now a.second.now c.beyond.result c.beyond.ensures k h _ _ _
    v.result (Ok v.result) v.new.room v.new.first v.new.second lent first second refl v.ensures.value v.ensures.first_after v.ensures.second_after in
    record { value = all.0; room_after = all.1.0; first_after = all.1.1.0; second_after = all.1.1.1 }

pub returns-in_err-asked : goal.returns-in_err-asked
returns-in_err-asked c =
    let a = c.args in
    let all = refuses 2305843009213693952 a.n a.given.now a.s0 a.existing.now a.s1 a.added.now a.room.now a.first.now a.second.now c.beyond.result c.beyond.ensures
    c.in_err-asked.field-0.0 c.from_residual.result c.in_err-asked.ensures (search rules) in
    record { value = all.0; room_after = all.1.0; first_after = all.1.1.0; second_after = all.1.1.1 }
