-- Lists of two-word numbers, two words each: which there are, and one that is written. Assumes nothing.
use Rattle.std.proofs.Common.{◌≡◌, ℕ, ◌+◌, ◌*◌, ◌^◌, ◌<◌, ◌≤◌, ◌≢◌, List, length, set, ◌∙◌, ap₂, arith, length-set, get_or-set_other, get_or-set_same}
use Rattle.laws.specs.Word.{pair}
use Rattle.numbers.specs.Wide.{value}
use Rattle.numbers.specs.HilbertParts.{number_at}
use Rattle.numbers.specs.declared.wide.Wide.{Wide}

-- xs with w for its number k
abbrev pub put : List ℕ → ℕ → Wide → List ℕ
put xs k w = set (set xs (2 * k) w.low) (2 * k + 1) w.high

pub put_same : (xs : List ℕ) (k : ℕ) (w : Wide) → 2 * k + 1 < length xs → number_at (put xs k w) k ≡ value w
put_same xs k w h =
    let l : 2 * k + 1 < length (set xs (2 * k) w.low) = omega (arith, length-set xs (2 * k) w.low) in
    let n : 2 * k ≢ 2 * k + 1 = omega arith in
    ap₂ (pair (2 ^ 64))
    (get_or-set_other (set xs (2 * k) w.low) (2 * k + 1) (2 * k) w.high 0 n ∙ get_or-set_same xs (2 * k) w.low 0 (omega arith))
    (get_or-set_same (set xs (2 * k) w.low) (2 * k + 1) w.high 0 l)

-- number k of the first m, in a list of K words that is as long as one of L
pub number_in : (k m L K : ℕ) → k < m → 2 * m ≤ L → K ≡ L → 2 * k + 1 < K
number_in k m L K h l e = omega arith
