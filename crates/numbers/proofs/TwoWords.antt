-- Two-word numbers: the laws of pairs at the base 2^64, over `value` and `wide`. Assumes nothing.
use Rattle.std.proofs.Common.{◌≡◌, ℕ, ◌%◌, ◌^◌, ◌<◌, ◌≤◌, ◌∙◌, ap₂, mod-eq_of_lt, lit<, le-ltb}
use Rattle.laws.specs.Word.{pair}
use Rattle.laws.proofs.Word.{pair_lt, pair_words, words_unique, words_mod}
use Rattle.numbers.specs.Wide.{value, wide, product_answer}
use Rattle.numbers.specs.declared.wide.Wide.{Wide}
use Rattle.std.specs.Prelude.{None}

-- a struct of two words
abbrev pub words : ℕ → ℕ → Wide
words a b = record { low = a; high = b }

-- two words that are v modulo 2^128
pub wide_is : (a b v : ℕ) → a < 2 ^ 64 → pair (2 ^ 64) a b ≡ v % 2 ^ 128 → words a b ≡ wide v
wide_is a b v h e =
    let (p, q) = words_unique (2 ^ 64) (lit< tt) a b v h e in
    ap₂ words p q

-- the value of the words of v
pub value_wide : (v : ℕ) → value (wide v) ≡ v % 2 ^ 128
value_wide v = pair_words (2 ^ 64) (lit< tt) v

pub value_exact : (v : ℕ) → v < 2 ^ 128 → value (wide v) ≡ v
value_exact v h = value_wide v ∙ mod-eq_of_lt h

-- numbers that are equal modulo 2^128 have the same words
pub wide_mod : (u v : ℕ) → u % 2 ^ 128 ≡ v % 2 ^ 128 → wide u ≡ wide v
wide_mod u v e =
    let (p, q) = words_mod (2 ^ 64) (lit< tt) u v e in
    ap₂ words p q

-- a two-word number is below 2^128
pub value_lt : (a b : ℕ) → a < 2 ^ 64 → b < 2 ^ 64 → value (words a b) < 2 ^ 128
value_lt a b h k = pair_lt (2 ^ 64) a b h k

pub passes : (v : ℕ) → 2 ^ 127 ≤ v → None ≡ product_answer v
passes v h = rw (le-ltb v (2 ^ 127) h)
