-- The value of the Hilbert function that a list of coefficients gives.
--   binomial m r      == C(m, r), by Pascal's rule
--   hilbert p n d     == Σ p_k · C(d − k + n − 1, n − 1) over k ≤ d for n ≥ 1, and p_d for n = 0
--   hilbert_size p n d == the same sum with |p_k|; 0 for n = 0, where no sum is formed
-- Assumes nothing.
use Rattle.std.specs.Prelude.{◌≡◌, refl, List, [], ◌∷◌, ℕ, zero, suc, ◌+◌, ◌*◌, ◌-◌, ◌^◌, ℤ, pos, negsuc, ◌*ℤ◌, nat_abs}
use Rattle.laws.specs.Coefficients.{coefficient, first}
use Rattle.laws.specs.Count.{HF}
use Rattle.laws.specs.Numerator.{numerator}
use Rattle.laws.specs.Sums.{sum, sumℤ}

abbrev pub binomial : ℕ → ℕ → ℕ
binomial m zero = 1
binomial zero (suc r) = 0
binomial (suc m) (suc r) = binomial m r + binomial m (suc r)

abbrev pub hilbert : List ℤ → ℕ → ℕ → ℤ
hilbert p zero d = coefficient p d
hilbert p (suc r) d = sumℤ (λ k. coefficient p k *ℤ pos (binomial (d - k + r) r)) d

abbrev pub hilbert_size : List ℤ → ℕ → ℕ → ℕ
hilbert_size p zero d = 0
hilbert_size p (suc r) d = sum (λ k. nat_abs (coefficient p k) * binomial (d - k + r) r) d

test_binomial : first 5 (binomial 4) ≡ 1 ∷ 4 ∷ 6 ∷ 4 ∷ 1 ∷ []
test_binomial = refl

test_most_negative : hilbert (negsuc (2 ^ 63 - 1) ∷ []) 1 0 ≡ negsuc (2 ^ 63 - 1)
test_most_negative = refl

-- n = 2, (2,0)(1,1)(0,2): 1, 2, 0
test_two_variables : first 3 (HF ((2 ∷ 0 ∷ []) ∷ (1 ∷ 1 ∷ []) ∷ (0 ∷ 2 ∷ []) ∷ []) 2) ≡ 1 ∷ 2 ∷ 0 ∷ []
test_two_variables = refl

test_two_variables_sums : first 3 (hilbert (numerator ((2 ∷ 0 ∷ []) ∷ (1 ∷ 1 ∷ []) ∷ (0 ∷ 2 ∷ []) ∷ [])) 2) ≡ pos 1 ∷ pos 2 ∷ pos 0 ∷ []
test_two_variables_sums = refl

-- n = 2, (3,0)(0,2): 1, 2, 2, 1
test_pure_powers : first 4 (HF ((3 ∷ 0 ∷ []) ∷ (0 ∷ 2 ∷ []) ∷ []) 2) ≡ 1 ∷ 2 ∷ 2 ∷ 1 ∷ []
test_pure_powers = refl

-- the triangle in three variables: 1, 3, 3, 3
test_triangle : first 4 (HF ((1 ∷ 1 ∷ 0 ∷ []) ∷ (0 ∷ 1 ∷ 1 ∷ []) ∷ (1 ∷ 0 ∷ 1 ∷ []) ∷ []) 3) ≡ 1 ∷ 3 ∷ 3 ∷ 3 ∷ []
test_triangle = refl

test_triangle_sums : first 4 (hilbert (numerator ((1 ∷ 1 ∷ 0 ∷ []) ∷ (0 ∷ 1 ∷ 1 ∷ []) ∷ (1 ∷ 0 ∷ 1 ∷ []) ∷ [])) 3) ≡ pos 1 ∷ pos 3 ∷ pos 3 ∷ pos 3 ∷ []
test_triangle_sums = refl

test_no_variables : first 2 (hilbert (numerator []) 0) ≡ pos 1 ∷ pos 0 ∷ []
test_no_variables = refl
