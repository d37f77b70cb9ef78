-- Pure powers and the dimension.
--   pure_power m v    == x where m is variable v to the x with x ≥ 1; 0 where it is not
--   least_power L v   == a_v: the least exponent of a pure power of variable v in L; 0 where L has none
--   finite n L       == each of the n variables has a pure power in L
--   degree_bound n L  == D = Σ (a_v − 1)
--   powers_product n L == the product of all a_v
--   standards n L    == all monomials in n variables of degree at most D that are no multiple of L, degree by degree
--   dimension n L    == how many they are (the laws: where L is finite, no other monomial is standard)
--   top_degree n L    == what an answer says beside the dimension: D, and 0 for a list with a unit
-- Assumes nothing.
use Rattle.std.specs.Prelude.{◌≡◌, refl, Bool, true, false, not, ◌&&◌, cond, List, [], ◌∷◌, ◌++◌, ℕ, zero, suc, ◌-◌, min, eqb, length}
use Rattle.laws.specs.Monomial.{degree, exponent}
use Rattle.laws.specs.Ideal.{multiple, unit_in}
use Rattle.laws.specs.Count.{keep, monomials}
use Rattle.laws.specs.Sums.{sum_below, product_below}

abbrev pub pure_power : List ℕ → ℕ → ℕ
pure_power m v = cond (eqb (degree m) (exponent m v)) (exponent m v) 0

-- the lesser of two numbers of which 0 says that there is none
abbrev pub lesser : ℕ → ℕ → ℕ
lesser x y = cond (eqb x 0) y (cond (eqb y 0) x (min x y))

abbrev pub least_power : List (List ℕ) → ℕ → ℕ
least_power [] v = 0
least_power (m ∷ L) v = lesser (pure_power m v) (least_power L v)

abbrev pub finite : ℕ → List (List ℕ) → Bool
finite zero L = true
finite (suc n) L = not (eqb (least_power L n) 0) && finite n L

abbrev pub degree_bound : ℕ → List (List ℕ) → ℕ
degree_bound n L = sum_below n (λ v. least_power L v - 1)

abbrev pub powers_product : ℕ → List (List ℕ) → ℕ
powers_product n L = product_below n (least_power L)

abbrev pub standards_to : ℕ → List (List ℕ) → ℕ → List (List ℕ)
standards_to n L zero = keep (λ u. not (multiple L u)) (monomials n zero)
standards_to n L (suc d) = standards_to n L d ++ keep (λ u. not (multiple L u)) (monomials n (suc d))

abbrev pub standards : ℕ → List (List ℕ) → List (List ℕ)
standards n L = standards_to n L (degree_bound n L)

abbrev pub dimension : ℕ → List (List ℕ) → ℕ
dimension n L = length (standards n L)

abbrev pub top_degree : ℕ → List (List ℕ) → ℕ
top_degree n L = cond (unit_in L) 0 (degree_bound n L)

test_two_variables : standards 2 ((2 ∷ 0 ∷ []) ∷ (1 ∷ 1 ∷ []) ∷ (0 ∷ 2 ∷ []) ∷ []) ≡ (0 ∷ 0 ∷ []) ∷ (0 ∷ 1 ∷ []) ∷ (1 ∷ 0 ∷ []) ∷ []
test_two_variables = refl

test_top_degree : top_degree 2 ((2 ∷ 0 ∷ []) ∷ (1 ∷ 1 ∷ []) ∷ (0 ∷ 2 ∷ []) ∷ []) ≡ 2
test_top_degree = refl

test_pure_powers : dimension 2 ((3 ∷ 0 ∷ []) ∷ (0 ∷ 2 ∷ []) ∷ []) ≡ 6
test_pure_powers = refl

-- the least pure power, not the first
test_least : dimension 1 ((5 ∷ []) ∷ (3 ∷ []) ∷ (3 ∷ []) ∷ []) ≡ 3
test_least = refl

test_unit : dimension 2 ((0 ∷ 0 ∷ []) ∷ []) ≡ 0
test_unit = refl

test_no_variables : dimension 0 [] ≡ 1
test_no_variables = refl

test_no_variables_unit : dimension 0 ([] ∷ []) ≡ 0
test_no_variables_unit = refl

test_triangle : finite 3 ((1 ∷ 1 ∷ 0 ∷ []) ∷ (0 ∷ 1 ∷ 1 ∷ []) ∷ (1 ∷ 0 ∷ 1 ∷ []) ∷ []) ≡ false
test_triangle = refl

test_none : finite 3 [] ≡ false
test_none = refl
