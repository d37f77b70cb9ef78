-- `digits_at` meets its contract: the number so far and the digits that are left make the number. Rests on `value_more` and `end_more`.
use Rattle.std.proofs.Common.{◌≡◌, ◌+◌, ◌-◌, ◌*◌, min, true, get_or, sym, ◌∙◌, arith}
use Rattle.vectors.specs.Text.{largest, is_digit}
use Rattle.vectors.proofs.Reading.{digit_test, value_more, end_more}
use Rattle.vectors.proofs.digits_at.Goals as goal

pub loop-i-preserved : goal.loop-i-preserved
loop-i-preserved c =
    let s = c.args.text.now in
    let i = c.loop-i.i in
    let v = c.loop-i.magnitude in
    let w = c.saturating_add-magnitude.result in
    let digit : is_digit (get_or s i 0) ≡ true = digit_test (get_or s i 0) (omega arith) (omega arith) in
    let more : w ≡ min (v * 10 + (get_or s i 0 - 48)) largest = omega arith in
    (omega arith, sym (value_more s i (omega arith) v w digit more) ∙ c.loop-i.invariant.1, sym (end_more s i (omega arith) digit) ∙ c.loop-i.invariant.2)
