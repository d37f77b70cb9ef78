-- The sizes that a call asks of the rooms lent to it. All listed monomials count, repeated and divided ones too.
--   distinct xs            == how many different numbers other than 0 stand in xs
--   column L v             == the exponents of variable v, member by member
--   pairs n L              == e: how many different pairs (variable, nonzero exponent) L has
--   cells_asked n L         == exponent cells: s·n·(s + e)
--   coefficients_asked L    == of either coefficient room: 1 + the degree of the lcm of all listed
--   update_asked G L        == the same for an update, L being both lists: at least the length of G too
--   hilbert_words d         == words of the sum room for `hf_at` at degree d
--   dimension_words D       == words of the sum room for a dimension
-- Assumes nothing.
use Rattle.std.specs.Prelude.{◌≡◌, refl, Bool, false, ◌||◌, cond, List, [], ◌∷◌, map, ℕ, suc, ◌+◌, ◌*◌, max, eqb, ℤ, length}
use Rattle.laws.specs.Monomial.{degree, exponent}
use Rattle.laws.specs.Ideal.{lcm_of}
use Rattle.laws.specs.Sums.{sum_below}

abbrev pub holds : ℕ → List ℕ → Bool
holds x [] = false
holds x (y ∷ xs) = eqb x y || holds x xs

abbrev pub distinct : List ℕ → ℕ
distinct [] = 0
distinct (x ∷ xs) = cond (eqb x 0 || holds x xs) (distinct xs) (suc (distinct xs))

abbrev pub column : List (List ℕ) → ℕ → List ℕ
column L v = map (λ m. exponent m v) L

abbrev pub pairs : ℕ → List (List ℕ) → ℕ
pairs n L = sum_below n (λ v. distinct (column L v))

abbrev pub cells_asked : ℕ → List (List ℕ) → ℕ
cells_asked n L = length L * n * (length L + pairs n L)

abbrev pub coefficients_asked : List (List ℕ) → ℕ
coefficients_asked L = suc (degree (lcm_of L))

abbrev pub update_asked : List ℤ → List (List ℕ) → ℕ
update_asked G L = max (coefficients_asked L) (length G)

abbrev pub hilbert_words : ℕ → ℕ
hilbert_words d = 4 * (d + 1)

abbrev pub dimension_words : ℕ → ℕ
dimension_words D = 2 * (D + 1)

-- n = 2, (2,0)(1,1)(0,2): e = 4, 42 cells, 5 coefficients
test_pairs : pairs 2 ((2 ∷ 0 ∷ []) ∷ (1 ∷ 1 ∷ []) ∷ (0 ∷ 2 ∷ []) ∷ []) ≡ 4
test_pairs = refl

test_cells : cells_asked 2 ((2 ∷ 0 ∷ []) ∷ (1 ∷ 1 ∷ []) ∷ (0 ∷ 2 ∷ []) ∷ []) ≡ 42
test_cells = refl

test_coefficients : coefficients_asked ((2 ∷ 0 ∷ []) ∷ (1 ∷ 1 ∷ []) ∷ (0 ∷ 2 ∷ []) ∷ []) ≡ 5
test_coefficients = refl

-- repeated and divided monomials count: (5)(3)(3) asks 15 cells and 6 coefficients
test_repeated : cells_asked 1 ((5 ∷ []) ∷ (3 ∷ []) ∷ (3 ∷ []) ∷ []) ≡ 15
test_repeated = refl

test_repeated_coefficients : coefficients_asked ((5 ∷ []) ∷ (3 ∷ []) ∷ (3 ∷ []) ∷ []) ≡ 6
test_repeated_coefficients = refl

test_unit : cells_asked 2 ((0 ∷ 0 ∷ []) ∷ []) ≡ 2
test_unit = refl
