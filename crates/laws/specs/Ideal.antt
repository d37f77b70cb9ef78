-- Lists of monomials and their multiples.
--   listed n s cells == the list of width n and count s that lies in the cells, one monomial after another
--   In m L           == m is a member of L
--   Width n L        == each member has n exponents
--   Within n L       == each member has at most n exponents
--   multiple L u     == some member of L divides u
--   Same n L K       == L and K have the same multiples in n variables
--   lcm_of L          == the lcm of all members, the unit for none
--   colon L p        == each member's quotient by p: its multiples are the u whose product with p is a multiple of L
--   unit_in L         == some member is the unit
-- Assumes nothing.
use Rattle.std.specs.Prelude.{◌≡◌, refl, ◌⊎◌, Bool, true, false, ◌||◌, List, [], ◌∷◌, ℕ, zero, suc, ◌≤◌, eqb, length, take, drop}
use Rattle.laws.specs.Monomial.{degree, divides, lcm, quotient}

abbrev pub listed : ℕ → ℕ → List ℕ → List (List ℕ)
listed n zero cells = []
listed n (suc s) cells = take n cells ∷ listed n s (drop n cells)

abbrev pub In : List ℕ → List (List ℕ) → Type 0
In m [] = ⊥
In m (a ∷ L) = (m ≡ a) ⊎ In m L

abbrev pub Width : ℕ → List (List ℕ) → Type 0
Width n L = (m : List ℕ) → In m L → length m ≡ n

abbrev pub Within : ℕ → List (List ℕ) → Type 0
Within n L = (m : List ℕ) → In m L → length m ≤ n

abbrev pub multiple : List (List ℕ) → List ℕ → Bool
multiple [] u = false
multiple (m ∷ L) u = divides m u || multiple L u

abbrev pub Same : ℕ → List (List ℕ) → List (List ℕ) → Type 0
Same n L K = (u : List ℕ) → length u ≡ n → multiple L u ≡ multiple K u

abbrev pub lcm_of : List (List ℕ) → List ℕ
lcm_of [] = []
lcm_of (m ∷ L) = lcm m (lcm_of L)

abbrev pub colon : List (List ℕ) → List ℕ → List (List ℕ)
colon [] p = []
colon (m ∷ L) p = quotient m p ∷ colon L p

abbrev pub unit_in : List (List ℕ) → Bool
unit_in [] = false
unit_in (m ∷ L) = eqb (degree m) 0 || unit_in L

test_listed : listed 2 2 (1 ∷ 2 ∷ 3 ∷ 4 ∷ []) ≡ (1 ∷ 2 ∷ []) ∷ (3 ∷ 4 ∷ []) ∷ []
test_listed = refl

test_no_variables : listed 0 3 [] ≡ [] ∷ [] ∷ [] ∷ []
test_no_variables = refl

test_multiple : multiple ((2 ∷ 0 ∷ []) ∷ (1 ∷ 1 ∷ []) ∷ []) (1 ∷ 2 ∷ []) ≡ true
test_multiple = refl

test_colon : colon ((2 ∷ 0 ∷ []) ∷ (1 ∷ 1 ∷ []) ∷ []) (1 ∷ 0 ∷ []) ≡ (1 ∷ 0 ∷ []) ∷ (0 ∷ 1 ∷ []) ∷ []
test_colon = refl
