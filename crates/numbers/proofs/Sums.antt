-- What the law of two-word sums, `pair_add`, says of `Wide::wrapping_add`.
--   sum_words   the low words' sum, and the high words' sum with its carry, each modulo 2^64
-- Assumes nothing.
use Rattle.std.proofs.Common.{◌≡◌, ℕ, ◌+◌, ◌%◌, ◌^◌, ◌<◌, sym, ◌∙◌, mod-lt, lit<}
use contract.Lifetimes.{Lfts}
use Rattle.laws.specs.Word.{carry}
use Rattle.laws.proofs.Word.{pair_add}
use Rattle.numbers.specs.Wide.{value}
use Rattle.numbers.specs.declared.wide.Wide.{Wide}
use Rattle.numbers.proofs.TwoWords.{words, wide_is}
use Rattle.numbers.proofs.wide.Wide.wrapping_add.Reads as wrapping_add

-- the sum of the low words a and c
abbrev pub low_of : ℕ → ℕ → ℕ
low_of a c = (a + c) % 2 ^ 64

-- the sum of the high words b and d, with the carry of a and c
abbrev pub high_of : ℕ → ℕ → ℕ → ℕ → ℕ
high_of a b c d = (b + d + carry a (low_of a c)) % 2 ^ 64

pub sum_words : (κs : Lfts 0) (a : _) (r : Wide) (s : _) → wrapping_add.Post κs a r s → a.0.low < 2 ^ 64 → a.1.0.low < 2 ^ 64
    → r ≡ words (low_of a.0.low a.1.0.low) (high_of a.0.low a.0.high a.1.0.low a.1.0.high)
sum_words κs a r s p h k =
    p ∙ sym (wide_is (low_of a.0.low a.1.0.low) (high_of a.0.low a.0.high a.1.0.low a.1.0.high) (value a.0 + value a.1.0) (mod-lt (a.0.low + a.1.0.low) (lit< tt)) (pair_add (2 ^ 64) a.0.low a.0.high a.1.0.low a.1.0.high h k))
