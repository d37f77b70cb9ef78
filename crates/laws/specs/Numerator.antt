-- The numerator: the sum over all subsets of the list of (−1)^size · t^(degree of their lcm).
--   subsets L               == all subsets of L
--   signed n z              == (−1)^n · z
--   total zs                == the sum of zs
--   numerator_at L k         == the coefficient of t^k in the numerator of L
--   numerator L             == the numerator's coefficients, trimmed
--   update_at G L K k, update G L K == G + N(L and K) − N(L), for given coefficients G, an existing list L and a new list K
-- Assumes nothing.
use Rattle.std.specs.Prelude.{◌≡◌, refl, List, [], ◌∷◌, ◌++◌, map, ℕ, zero, suc, length, ℤ, pos, negsuc, ◌+ℤ◌, ◌-ℤ◌, neg_ℤ}
use Rattle.laws.specs.Monomial.{degree}
use Rattle.laws.specs.Ideal.{lcm_of}
use Rattle.laws.specs.Room.{coefficients_asked, update_asked}
use Rattle.laws.specs.Coefficients.{first, trim, one, shift, coefficient}

abbrev pub subsets : List (List ℕ) → List (List (List ℕ))
subsets [] = [] ∷ []
subsets (m ∷ L) = subsets L ++ map (λ S. m ∷ S) (subsets L)

abbrev pub signed : ℕ → ℤ → ℤ
signed zero z = z
signed (suc n) z = neg_ℤ (signed n z)

abbrev pub total : List ℤ → ℤ
total [] = pos 0
total (z ∷ zs) = z +ℤ total zs

abbrev pub numerator_at : List (List ℕ) → ℕ → ℤ
numerator_at L k = total (map (λ S. signed (length S) (shift (degree (lcm_of S)) one k)) (subsets L))

-- past the degree of the lcm of all listed every coefficient is 0
abbrev pub numerator : List (List ℕ) → List ℤ
numerator L = trim (first (coefficients_asked L) (numerator_at L))

abbrev pub update_at : List ℤ → List (List ℕ) → List (List ℕ) → ℕ → ℤ
update_at G L K k = (coefficient G k +ℤ numerator_at (L ++ K) k) -ℤ numerator_at L k

abbrev pub update : List ℤ → List (List ℕ) → List (List ℕ) → List ℤ
update G L K = trim (first (update_asked G (L ++ K)) (update_at G L K))

test_none : numerator [] ≡ pos 1 ∷ []
test_none = refl

test_unit : numerator ((0 ∷ 0 ∷ []) ∷ []) ≡ []
test_unit = refl

test_no_variables_unit : numerator ([] ∷ []) ≡ []
test_no_variables_unit = refl

test_two_variables : numerator ((2 ∷ 0 ∷ []) ∷ (1 ∷ 1 ∷ []) ∷ (0 ∷ 2 ∷ []) ∷ []) ≡ pos 1 ∷ pos 0 ∷ negsuc 2 ∷ pos 2 ∷ []
test_two_variables = refl

test_pure_powers : numerator ((3 ∷ 0 ∷ []) ∷ (0 ∷ 2 ∷ []) ∷ []) ≡ pos 1 ∷ pos 0 ∷ negsuc 0 ∷ negsuc 0 ∷ pos 0 ∷ pos 1 ∷ []
test_pure_powers = refl

test_triangle : numerator ((1 ∷ 1 ∷ 0 ∷ []) ∷ (0 ∷ 1 ∷ 1 ∷ []) ∷ (1 ∷ 0 ∷ 1 ∷ []) ∷ []) ≡ pos 1 ∷ pos 0 ∷ negsuc 2 ∷ pos 2 ∷ []
test_triangle = refl

test_repeated : numerator ((5 ∷ []) ∷ (3 ∷ []) ∷ (3 ∷ []) ∷ []) ≡ pos 1 ∷ pos 0 ∷ pos 0 ∷ negsuc 0 ∷ []
test_repeated = refl

test_update : update (pos 1 ∷ pos 0 ∷ pos 0 ∷ pos 0 ∷ pos 0 ∷ negsuc 0 ∷ []) ((5 ∷ []) ∷ []) ((3 ∷ []) ∷ []) ≡ pos 1 ∷ pos 0 ∷ pos 0 ∷ negsuc 0 ∷ []
test_update = refl
