-- Counting monomials.
--   bit b            == 1 for a test that passes, 0 for one that fails
--   count p us       == how many of us pass the test p
--   keep p us        == those of us that pass, in their order
--   equal u v        == u and v are the same list
--   occurrences u us == how often u stands in us
--   monomials n d    == all monomials of degree d in n variables (the laws: each stands there exactly once, and no other)
--   HF L n d         == how many monomials of degree d in n variables are no multiple of L
-- Assumes nothing.
use Rattle.std.specs.Prelude.{◌≡◌, refl, Bool, true, false, not, ◌&&◌, cond, List, [], ◌∷◌, ◌++◌, map, ℕ, zero, suc, ◌+◌, eqb}
use Rattle.laws.specs.Ideal.{multiple}

abbrev pub bit : Bool → ℕ
bit true = 1
bit false = 0

abbrev pub count : (List ℕ → Bool) → List (List ℕ) → ℕ
count p [] = 0
count p (u ∷ us) = bit (p u) + count p us

abbrev pub keep : (List ℕ → Bool) → List (List ℕ) → List (List ℕ)
keep p [] = []
keep p (u ∷ us) = cond (p u) (u ∷ keep p us) (keep p us)

abbrev pub equal : List ℕ → List ℕ → Bool
equal [] [] = true
equal [] (y ∷ v) = false
equal (x ∷ u) [] = false
equal (x ∷ u) (y ∷ v) = eqb x y && equal u v

abbrev pub occurrences : List ℕ → List (List ℕ) → ℕ
occurrences u us = count (equal u) us

-- those whose first exponent is i, i + 1, .., i + d, before what f lists for what is left of d
abbrev pub from_first : (ℕ → List (List ℕ)) → ℕ → ℕ → List (List ℕ)
from_first f i zero = map (λ u. i ∷ u) (f zero)
from_first f i (suc d) = map (λ u. i ∷ u) (f (suc d)) ++ from_first f (suc i) d

abbrev pub monomials : ℕ → ℕ → List (List ℕ)
monomials zero zero = [] ∷ []
monomials zero (suc d) = []
monomials (suc n) d = from_first (monomials n) 0 d

abbrev pub HF : List (List ℕ) → ℕ → ℕ → ℕ
HF L n d = count (λ u. not (multiple L u)) (monomials n d)

test_monomials : monomials 2 2 ≡ (0 ∷ 2 ∷ []) ∷ (1 ∷ 1 ∷ []) ∷ (2 ∷ 0 ∷ []) ∷ []
test_monomials = refl

test_no_variables : monomials 0 0 ≡ [] ∷ []
test_no_variables = refl
