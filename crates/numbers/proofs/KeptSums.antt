-- Sums of two-word numbers, of which the value modulo 2^128 or the value held down to 2^127 is kept. Assumes nothing.
use Rattle.std.proofs.Common.{◌≡◌, ℕ, zero, suc, ◌^◌, ◌<◌, leb, List, ℤ, nat_abs, sym, refl, ap, ◌∙◌, le_trans, mod-eq_of_lt, arith, lit<, lit≤}
use borrow.Author.Tests.{lt-leb}
use Rattle.laws.specs.Coefficients.{coefficient}
use Rattle.laws.specs.Hilbert.{hilbert_size}
use Rattle.laws.specs.Sums.{sum_below, sums, sumsℤ}
use Rattle.laws.specs.Word.{residue}
use Rattle.laws.proofs.Hilbert.{hilbert_size_sums}
use Rattle.laws.proofs.Sums.{sum_below_lem, capped_reaches, residue_sums}
use Rattle.laws.proofs.Word.{residue_lt}
use Rattle.numbers.specs.Wide.{value, wide_of}
use Rattle.numbers.specs.HilbertParts.{KeepsSums, modulo, capped}
use Rattle.numbers.specs.declared.wide.Wide.{Wide}
use Rattle.numbers.proofs.TwoWords.{value_exact, value_lt, wide_is}

module _ (kept : ℕ → ℕ) (law : KeepsSums kept) where
  kept_below : (n : ℕ) (x f : ℕ → ℕ) → ((k : ℕ) → k < n → kept (x k) ≡ kept (f k)) → kept (sum_below n x) ≡ kept (sum_below n f)
  kept_below zero x f h = refl
  kept_below (suc n) x f h =
      law.sums (x n) (f n) (sum_below n x) (sum_below n f) (h n (omega arith)) (kept_below n x f (λ k l. h k (omega arith)))

  -- one more stage is one more fold
  pub kept_stage : (n m : ℕ) (f x y : ℕ → ℕ) → ((k : ℕ) → k < m → kept (x k) ≡ kept (sums n f k)) → ((k : ℕ) → k < m → kept (y k) ≡ kept (sum_below (suc k) x))
      → (k : ℕ) → k < m → kept (y k) ≡ kept (sums (suc n) f k)
  kept_stage n m f x y g h k l =
      h k l ∙ kept_below (suc k) x (sums n f) (λ j i. g j (omega arith)) ∙ sym (ap kept (sum_below_lem (sums n f) k))

-- the words of an integer are its residue
pub value_of : (z : ℤ) → value (wide_of z) ≡ residue (2 ^ 128) z
value_of z = value_exact (residue (2 ^ 128) z) (residue_lt (2 ^ 128) (lit< tt) z)

-- what the n-fold sums at d say
module _ (n : ℕ) (p : List ℤ) (d : ℕ) (r : Wide) where
  pub sum_is : r.low < 2 ^ 64 → r.high < 2 ^ 64 → modulo (value r) ≡ modulo (sums n (λ k. residue (2 ^ 128) (coefficient p k)) d) → r ≡ wide_of (sumsℤ n (coefficient p) d)
  sum_is h k e =
      let z : ℤ = sumsℤ n (coefficient p) d in
      wide_is r.low r.high (residue (2 ^ 128) z) h
      (sym (mod-eq_of_lt (value_lt r.low r.high h k)) ∙ e
      ∙ residue_sums (2 ^ 128) (lit< tt) n (suc d) (coefficient p) (λ k. residue (2 ^ 128) (coefficient p k)) (λ k l. refl) d (omega arith)
      ∙ sym (mod-eq_of_lt (residue_lt (2 ^ 128) (lit< tt) z)))

-- the sum of the magnitudes reaches 2^127; of one magnitude nothing is summed
pub sum_large : (n : ℕ) (p : List ℤ) (d : ℕ) (r : Wide) → nat_abs (coefficient p d) < 2 ^ 64 → capped (value r) ≡ capped (sums n (λ k. nat_abs (coefficient p k)) d)
    → leb (2 ^ 127) (value r) ≡ leb (2 ^ 127) (hilbert_size p n d)
sum_large n p d r h e =
    sym (capped_reaches (2 ^ 127) (value r)) ∙ ap (leb (2 ^ 127)) e ∙ capped_reaches (2 ^ 127) (sums n (λ k. nat_abs (coefficient p k)) d) ∙ size n
  where
    size : (n : ℕ) → leb (2 ^ 127) (sums n (λ k. nat_abs (coefficient p k)) d) ≡ leb (2 ^ 127) (hilbert_size p n d)
    size zero = lt-leb (2 ^ 127) (nat_abs (coefficient p d)) (le_trans h (lit≤ tt))
    size (suc m) = ap (leb (2 ^ 127)) (sym (hilbert_size_sums p m d))
