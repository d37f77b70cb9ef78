use Rattle.std.proofs.Common.{ℕ, ◌+◌, ◌-◌, length, replicate, pos, sym, ap, ◌∙◌, add-one, arith}
use Rattle.laws.proofs.Asked.{enough}
use Rattle.laws.proofs.Ideal.{listed_within}
use Rattle.laws.specs.Ideal.{listed}
use Rattle.laws.specs.Numerator.{numerator}
use Rattle.numbers.proofs.DimensionCall.{counted}
use Rattle.numbers.proofs.KeptSums.{sum_is}
use Rattle.numbers.proofs.dimension.dimension_in.Goals as goal

pub numerator_in-requires : goal.numerator_in-requires
numerator_in-requires c =
    let a = c.args in
    let l = a.list.now in
    let lent = c.requires.lent in
    record { room_len = enough l.n l.count l.cells.now a.room.now lent.cells; first_len = (lent.first, lent.second ∙ sym lent.first) }

pub returns : goal.returns
returns c =
    let a = c.args in
    let l = a.list.now in
    let L = listed l.n l.count l.cells.now in
    let q = c.numerator_in in
    let v = c.prefix_sum-r in
    let summed = sum_is (l.n + 1) q.new.first a.d v.result (omega arith) (omega arith) v.ensures.result_value in
    let past = length a.first.now - length (numerator L) in
    let within = listed_within l.n l.count l.cells.now in
    record {
      value = counted l.n a.d L c.requires.bounded within q.new.first past q.ensures.first_after v.result (rw (add-one l.n) at summed);
      room_after = q.ensures.value.1;
      first_after = c.fill.ensures.after (λ y e. e) ∙ ap (λ (k : ℕ). replicate k (pos 0)) q.auto.first;
      second_after = q.ensures.second_after;
      sums_after = v.ensures.words_after;
    }
