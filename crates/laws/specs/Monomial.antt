-- Monomials: lists of exponents, the first variable's first. A shorter list stands for one with zeros behind it.
--   degree m       == the sum of the exponents
--   exponent m v   == the exponent of variable v
--   divides a b    == each exponent of a is at most that of b
--   product a b    == the exponents added
--   quotient a b   == the exponents of a less those of b, and never below 0: a / gcd(a, b), which is a / b where b divides a
--   lcm a b        == the greater of the two exponents, variable by variable
--   gcd a b        == the smaller of the two
--   coprime a b    == no variable has an exponent above 0 in both
--   power n v x    == variable v to the x, written out in n variables
-- Assumes nothing.
use Rattle.std.specs.Prelude.{◌≡◌, refl, Bool, true, false, ◌&&◌, ◌||◌, List, [], ◌∷◌, ℕ, ◌+◌, ◌-◌, max, min, leb, eqb, get_or, set, replicate}

abbrev pub degree : List ℕ → ℕ
degree [] = 0
degree (x ∷ m) = x + degree m

abbrev pub exponent : List ℕ → ℕ → ℕ
exponent m v = get_or m v 0

abbrev pub divides : List ℕ → List ℕ → Bool
divides [] b = true
divides (x ∷ a) [] = leb x 0 && divides a []
divides (x ∷ a) (y ∷ b) = leb x y && divides a b

abbrev pub product : List ℕ → List ℕ → List ℕ
product [] b = b
product (x ∷ a) [] = x ∷ a
product (x ∷ a) (y ∷ b) = (x + y) ∷ product a b

abbrev pub quotient : List ℕ → List ℕ → List ℕ
quotient a [] = a
quotient [] (y ∷ b) = []
quotient (x ∷ a) (y ∷ b) = (x - y) ∷ quotient a b

abbrev pub lcm : List ℕ → List ℕ → List ℕ
lcm [] b = b
lcm (x ∷ a) [] = x ∷ a
lcm (x ∷ a) (y ∷ b) = max x y ∷ lcm a b

abbrev pub gcd : List ℕ → List ℕ → List ℕ
gcd [] b = []
gcd (x ∷ a) [] = []
gcd (x ∷ a) (y ∷ b) = min x y ∷ gcd a b

abbrev pub coprime : List ℕ → List ℕ → Bool
coprime [] b = true
coprime (x ∷ a) [] = true
coprime (x ∷ a) (y ∷ b) = (eqb x 0 || eqb y 0) && coprime a b

abbrev pub power : ℕ → ℕ → ℕ → List ℕ
power n v x = set (replicate n 0) v x

test_degree : degree (2 ∷ 0 ∷ 3 ∷ []) ≡ 5
test_degree = refl

test_divides : divides (1 ∷ 0 ∷ []) (1 ∷ 1 ∷ []) ≡ true
test_divides = refl

test_divides_not : divides (1 ∷ 1 ∷ []) (2 ∷ 0 ∷ []) ≡ false
test_divides_not = refl

test_quotient : quotient (2 ∷ 1 ∷ []) (1 ∷ 3 ∷ []) ≡ 1 ∷ 0 ∷ []
test_quotient = refl

test_lcm : lcm (2 ∷ 1 ∷ []) (1 ∷ 3 ∷ []) ≡ 2 ∷ 3 ∷ []
test_lcm = refl

test_power : power 3 1 7 ≡ 0 ∷ 7 ∷ 0 ∷ []
test_power = refl
