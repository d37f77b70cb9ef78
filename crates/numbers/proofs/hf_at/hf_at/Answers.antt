use Rattle.std.proofs.Common.{◌≡◌, ℕ, ◌+◌, ◌*◌, ◌≤◌, List, ◌++◌, length, take, drop, replicate, sym, refl, ap, ◌∙◌, le_trans, le_of_eq, arith, length-take-le}
use lib.Seq.{length_front}
use Rattle.numbers.proofs.HilbertCall.{gives, refuses_value}
use Rattle.numbers.proofs.KeptSums.{sum_is, sum_large}
use Rattle.std.specs.Prelude.{Err}
use Rattle.monomials.specs.declared.refusal.Refusal.TheVariants.{Value}
use Rattle.numbers.proofs.hf_at.hf_at.Goals as goal

half_asked : (d : ℕ) → 2 * (d + 1) ≤ 4 * (d + 1)
half_asked d = omega arith

half_long : (room : List ℕ) (d : ℕ) → 4 * (d + 1) ≤ length room → length (take (2 * (d + 1)) room) ≡ 2 * (d + 1)
half_long room d h = length-take-le (2 * (d + 1)) room (le_trans (half_asked d) h)

-- the room as it is once half of it came back as x
module _ (room x : List ℕ) (d : ℕ) (h : 4 * (d + 1) ≤ length room) (e : length x ≡ length (take (2 * (d + 1)) room)) where
  asked_there : 4 * (d + 1) ≤ length (x ++ drop (2 * (d + 1)) room)
  asked_there = le_trans h (le_of_eq (sym (length_front room x (2 * (d + 1)) e)))

  asked_long : length (take (4 * (d + 1)) (x ++ drop (2 * (d + 1)) room)) ≡ 4 * (d + 1)
  asked_long = length-take-le (4 * (d + 1)) (x ++ drop (2 * (d + 1)) room) asked_there

pub returns-then-is_large : goal.returns-then-is_large
returns-then-is_large c =
    let a = c.args in
    let s = sum_large a.n a.coeffs.now a.d c.prefix_sum-size.result c.prefix_sum-size.ensures.d_bound c.prefix_sum-size.ensures.result_value in
    let o = refuses_value 255 65536 a.n a.coeffs.now a.d a.sums.now c.if-n-gt-MAX_WIDTH.false c.if-d-gt-MAX_DEGREE.false c.if-sums-asked.false c.prefix_sum-size.new.words c.prefix_sum-value.new.words (2 * (a.d + 1)) (half_asked a.d) (c.prefix_sum-size.auto.words ∙ half_long a.sums.now a.d c.if-sums-asked.false) (c.prefix_sum-value.ensures.words_after ∙ ap (λ (z : ℕ). replicate z 0) (asked_long a.sums.now c.prefix_sum-size.new.words a.d c.if-sums-asked.false c.prefix_sum-size.auto.words)) (Err Value) (sym s ∙ rw c.is_large.ensures at c.if-is_large.true) refl in
    record { value = o.0; sums_after = o.1 }

pub returns : goal.returns
returns c =
    let a = c.args in
    let s = sum_large a.n a.coeffs.now a.d c.prefix_sum-size.result c.prefix_sum-size.ensures.d_bound c.prefix_sum-size.ensures.result_value in
    let o = gives 255 65536 a.n a.coeffs.now a.d a.sums.now c.if-n-gt-MAX_WIDTH.false c.if-d-gt-MAX_DEGREE.false c.if-sums-asked.false c.prefix_sum-size.new.words c.prefix_sum-value.new.words (2 * (a.d + 1)) (half_asked a.d) (c.prefix_sum-size.auto.words ∙ half_long a.sums.now a.d c.if-sums-asked.false) (c.prefix_sum-value.ensures.words_after ∙ ap (λ (z : ℕ). replicate z 0) (asked_long a.sums.now c.prefix_sum-size.new.words a.d c.if-sums-asked.false c.prefix_sum-size.auto.words)) c.prefix_sum-value.result (sym s ∙ rw c.is_large.ensures at c.if-is_large.false) (sum_is a.n a.coeffs.now a.d c.prefix_sum-value.result c.prefix_sum-value.type_inv.1.1.0.1 c.prefix_sum-value.type_inv.1.1.1.0.1 c.prefix_sum-value.ensures.result_value) in
    record { value = o.0; sums_after = o.1 }
