-- The calls on monomials: each one's checks in their order, its answer, and what its output then holds. W is the greatest width, E the
-- greatest exponent.
--   order_of o         == a comparison's outcome as std's Ordering
--   differ a n        == check 3: a has another width than n
--   at_most E m        == each exponent of m is at most E
--   ..Checks          == the order of checks of a call
--   ..Answer          == its answer
--   ..Cells           == its output after the call
-- Assumes nothing.
use Rattle.std.specs.Prelude.{Bool, true, not, ◌&&◌, List, [], ◌∷◌, ◌++◌, leb, eqb, length, Result, ⊤}
use Prim.Native.Nat.{ℕ, Ordering}
use Rattle.std.specs.declared.cmp.Ordering.{Ordering as Order}
use Rattle.std.specs.declared.cmp.Ordering.TheVariants.{Less, Equal, Greater}
use Rattle.laws.specs.Monomial.{degree, exponent, divides, product, quotient, lcm, gcd, coprime, power}
use Rattle.laws.specs.Order.{lex, degrevlex}
use Rattle.monomials.specs.Refusal.{Check, refusal, answer, after, too_wide}
use Rattle.monomials.specs.declared.refusal.Refusal.{Refusal}
use Rattle.monomials.specs.declared.refusal.Refusal.TheVariants.{Cells, Place, Exponent, Division}

abbrev pub order_of : Ordering → Order
order_of Ordering.lt = Less
order_of Ordering.eq = Equal
order_of Ordering.gt = Greater

-- checks

abbrev pub differ : List ℕ → ℕ → Check
differ a n = (not (eqb (length a) n), Cells)

abbrev pub at_most : ℕ → List ℕ → Bool
at_most E [] = true
at_most E (x ∷ m) = leb x E && at_most E m

abbrev pub pair_checks : ℕ → List ℕ → List ℕ → List Check
pair_checks W a b = too_wide W (length a) ∷ differ b (length a) ∷ []

abbrev pub write_checks : ℕ → List ℕ → List ℕ → List ℕ → List Check
write_checks W a b out = pair_checks W a b ++ differ out (length a) ∷ []

-- degree: 1

abbrev pub degree_answer : ℕ → List ℕ → Result ℕ Refusal
degree_answer W a = answer (refusal (too_wide W (length a) ∷ [])) (degree a)

-- one variable's exponent: 1, 4

abbrev pub exponent_answer : ℕ → List ℕ → ℕ → Result ℕ Refusal
exponent_answer W a v = answer (refusal (too_wide W (length a) ∷ (leb (length a) v, Place) ∷ [])) (exponent a v)

-- one variable's power written out: 1, 3, 4

abbrev pub power_checks : ℕ → ℕ → ℕ → List ℕ → List Check
power_checks W n v out = too_wide W n ∷ differ out n ∷ (leb n v, Place) ∷ []

abbrev pub power_answer : ℕ → ℕ → ℕ → List ℕ → Result ⊤ Refusal
power_answer W n v out = answer (refusal (power_checks W n v out)) tt

abbrev pub power_cells : ℕ → ℕ → ℕ → ℕ → List ℕ → List ℕ
power_cells W n v x out = after (refusal (power_checks W n v out)) (power n v x) out

-- product: 1, 3, 5

abbrev pub product_checks : ℕ → ℕ → List ℕ → List ℕ → List ℕ → List Check
product_checks W E a b out = write_checks W a b out ++ (not (at_most E (product a b)), Exponent) ∷ []

abbrev pub product_answer : ℕ → ℕ → List ℕ → List ℕ → List ℕ → Result ⊤ Refusal
product_answer W E a b out = answer (refusal (product_checks W E a b out)) tt

abbrev pub product_cells : ℕ → ℕ → List ℕ → List ℕ → List ℕ → List ℕ
product_cells W E a b out = after (refusal (product_checks W E a b out)) (product a b) out

-- quotient: 1, 3, 6

abbrev pub quotient_checks : ℕ → List ℕ → List ℕ → List ℕ → List Check
quotient_checks W a b out = write_checks W a b out ++ (not (divides b a), Division) ∷ []

abbrev pub quotient_answer : ℕ → List ℕ → List ℕ → List ℕ → Result ⊤ Refusal
quotient_answer W a b out = answer (refusal (quotient_checks W a b out)) tt

abbrev pub quotient_cells : ℕ → List ℕ → List ℕ → List ℕ → List ℕ
quotient_cells W a b out = after (refusal (quotient_checks W a b out)) (quotient a b) out

-- lcm and gcd: 1, 3

abbrev pub lcm_answer : ℕ → List ℕ → List ℕ → List ℕ → Result ⊤ Refusal
lcm_answer W a b out = answer (refusal (write_checks W a b out)) tt

abbrev pub lcm_cells : ℕ → List ℕ → List ℕ → List ℕ → List ℕ
lcm_cells W a b out = after (refusal (write_checks W a b out)) (lcm a b) out

abbrev pub gcd_answer : ℕ → List ℕ → List ℕ → List ℕ → Result ⊤ Refusal
gcd_answer W a b out = answer (refusal (write_checks W a b out)) tt

abbrev pub gcd_cells : ℕ → List ℕ → List ℕ → List ℕ → List ℕ
gcd_cells W a b out = after (refusal (write_checks W a b out)) (gcd a b) out

-- divides, coprime and the two orders: 1, 3

abbrev pub divides_answer : ℕ → List ℕ → List ℕ → Result Bool Refusal
divides_answer W a b = answer (refusal (pair_checks W a b)) (divides a b)

abbrev pub coprime_answer : ℕ → List ℕ → List ℕ → Result Bool Refusal
coprime_answer W a b = answer (refusal (pair_checks W a b)) (coprime a b)

abbrev pub lex_answer : ℕ → List ℕ → List ℕ → Result Order Refusal
lex_answer W a b = answer (refusal (pair_checks W a b)) (order_of (lex a b))

abbrev pub degrevlex_answer : ℕ → List ℕ → List ℕ → Result Order Refusal
degrevlex_answer W a b = answer (refusal (pair_checks W a b)) (order_of (degrevlex a b))
