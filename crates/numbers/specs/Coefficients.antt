-- The degree of a coefficient list.
--   degree_at n   == n − 1, and none for 0
--   degree_of p   == the degree of p: of its trimmed list, the last place
-- Assumes nothing.
use Rattle.std.specs.Prelude.{◌≡◌, ℕ, zero, suc, List, [], ◌∷◌, length, ℤ, pos, negsuc, refl, Option, Some, None}
use Rattle.laws.specs.Coefficients.{trim}

abbrev pub degree_at : ℕ → Option ℕ
degree_at zero = None
degree_at (suc n) = Some n

abbrev pub degree_of : List ℤ → Option ℕ
degree_of p = degree_at (length (trim p))

test_degree : degree_of (pos 1 ∷ pos 0 ∷ negsuc 2 ∷ pos 0 ∷ []) ≡ Some 2
test_degree = refl

test_zero : degree_of (pos 0 ∷ pos 0 ∷ []) ≡ None
test_zero = refl
