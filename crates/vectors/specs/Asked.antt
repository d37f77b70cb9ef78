-- The exponent cells and the coefficients that a list asks for, from its cells as they lie, one monomial after another.
--   spaced g j xs      == after j elements one is taken, and then one after each g elements passed over
--   pairs_in g cells   == how many cells are other than 0 and stand in no later cell of the same variable, where g cells lie between two of
--                         a variable: the different pairs of a variable and a nonzero exponent
--   cells_of n s cells == s·n·(s + e) for s monomials of width n in s·n cells, e being the number of pairs; 0 for more than 65,535 monomials
--                         or cells, which no call takes
--   above g cells      == by how much each cell is above all later cells of the same variable, added: the degree of the lcm of all
--   coefficients_of n cells == 1 + the degree of the lcm; 0 for more than 65,535 cells
-- Assumes nothing.
use Rattle.std.specs.Prelude.{◌≡◌, ℕ, zero, suc, ◌+◌, ◌-◌, ◌*◌, cond, ◌||◌, List, [], ◌∷◌, length, ◌==◌, nat_lt, refl}
use Rattle.laws.specs.Room.{holds}
use Rattle.laws.proofs.Asked.{greatest}

abbrev pub spaced : ℕ → ℕ → List ℕ → List ℕ
spaced g j [] = []
spaced g zero (x ∷ xs) = x ∷ spaced g g xs
spaced g (suc j) (x ∷ xs) = spaced g j xs

abbrev pub pairs_in : ℕ → List ℕ → ℕ
pairs_in g [] = 0
pairs_in g (x ∷ xs) = cond (x == 0 || holds x (spaced g g xs)) (pairs_in g xs) (suc (pairs_in g xs))

abbrev pub cells_of : ℕ → ℕ → List ℕ → ℕ
cells_of n s cells = cond (nat_lt 65535 s || nat_lt 65535 (length cells)) 0 (length cells * (s + pairs_in (n - 1) cells))

abbrev pub above : ℕ → List ℕ → ℕ
above g [] = 0
above g (x ∷ xs) = (x - greatest (spaced g g xs)) + above g xs

abbrev pub coefficients_of : ℕ → List ℕ → ℕ
coefficients_of n cells = cond (nat_lt 65535 (length cells)) 0 (suc (above (n - 1) cells))

-- n = 2, (2,0)(1,1)(0,2): 42 cells, 5 coefficients
test_triangle : cells_of 2 3 (2 ∷ 0 ∷ 1 ∷ 1 ∷ 0 ∷ 2 ∷ []) ≡ 42
test_triangle = refl

test_triangle_coefficients : coefficients_of 2 (2 ∷ 0 ∷ 1 ∷ 1 ∷ 0 ∷ 2 ∷ []) ≡ 5
test_triangle_coefficients = refl

-- repeated monomials count: (5)(3)(3) asks 15 cells
test_repeated : cells_of 1 3 (5 ∷ 3 ∷ 3 ∷ []) ≡ 15
test_repeated = refl

test_repeated_coefficients : coefficients_of 1 (5 ∷ 3 ∷ 3 ∷ []) ≡ 6
test_repeated_coefficients = refl

test_unit : cells_of 2 1 (0 ∷ 0 ∷ []) ≡ 2
test_unit = refl

test_no_variables : cells_of 0 5 [] ≡ 0
test_no_variables = refl
