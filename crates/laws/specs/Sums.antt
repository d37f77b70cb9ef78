-- Sums.
--   sum_below n f            == f 0 + .. + f (n − 1)
--   product_below n f        == f 0 · .. · f (n − 1)
--   sum f d, sumℤ f d       == f 0 + .. + f d, over naturals and over integers
--   sums n f d, sumsℤ n f d == the n-fold prefix sums at d: the coefficient of t^d in f/(1 − t)^n
-- Assumes nothing.
use Rattle.std.specs.Prelude.{ℕ, zero, suc, ◌+◌, ◌*◌, ℤ, ◌+ℤ◌}

abbrev pub sum_below : ℕ → (ℕ → ℕ) → ℕ
sum_below zero f = 0
sum_below (suc n) f = f n + sum_below n f

abbrev pub product_below : ℕ → (ℕ → ℕ) → ℕ
product_below zero f = 1
product_below (suc n) f = f n * product_below n f

abbrev pub sum : (ℕ → ℕ) → ℕ → ℕ
sum f zero = f zero
sum f (suc d) = f (suc d) + sum f d

abbrev pub sums : ℕ → (ℕ → ℕ) → ℕ → ℕ
sums zero f d = f d
sums (suc n) f d = sum (sums n f) d

abbrev pub sumℤ : (ℕ → ℤ) → ℕ → ℤ
sumℤ f zero = f zero
sumℤ f (suc d) = f (suc d) +ℤ sumℤ f d

abbrev pub sumsℤ : ℕ → (ℕ → ℤ) → ℕ → ℤ
sumsℤ zero f d = f d
sumsℤ (suc n) f d = sumℤ (sumsℤ n f) d
