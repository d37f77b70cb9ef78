-- The dimension of a list: the checks in their order, the answer, and what each room then holds. W is the greatest width, C the greatest
-- count, M the greatest degree bound.
--   dimension_is r n L       == the refusal, or else the dimension of L, which fits two words where 11 does not refuse (`dimension_counts` of
--                              promises), and its top degree
--   at_once n L              == no room is asked: L has a unit, or there are no variables
--   no_dimension M n L       == check 13: some variable has no pure power, or D is above M
--   bound_checks M n L       == 13, and 11: the product of all a_v reaches 2^127
--   sum_room k sums          == check 9: fewer than k words in the sum room
--   room_checks              == 7, 8, 9
--   dimension_checks         == the order of checks: 1, 2, 3; and then, unless the answer is known at once, 13, 11, 7, 8, 9
--   dimension_answer         == the answer
--   left r once z k old     == a room that held old: z in its first k cells, unless the call refused or asked no room
--   dimension_room, dimension_first, dimension_second, dimension_sums == the exponent room, the two coefficient rooms and the sum room after the call
-- Assumes nothing.
use Rattle.std.specs.Prelude.{◌≡◌, ℕ, Bool, cond, not, ◌||◌, List, [], ◌∷◌, ◌++◌, length, ℤ, pos, ◌==◌, nat_lt, refl, Result}
use Rattle.std.proofs.Math.Option.{Option, none, some}
use Rattle.laws.specs.Ideal.{listed, unit_in}
use Rattle.laws.specs.Dimension.{finite, degree_bound, powers_product, dimension, top_degree}
use Rattle.laws.specs.Room.{cells_asked, coefficients_asked, dimension_words}
use Rattle.monomials.specs.Refusal.{Check, refusal, answer, after}
use Rattle.monomials.specs.declared.refusal.Refusal.{Refusal}
use Rattle.monomials.specs.declared.refusal.Refusal.TheVariants.{SumRoom, Dimension}
use Rattle.numbers.specs.Wide.{wide}
use Rattle.numbers.specs.declared.dimension.Dimension.{Dimension as Counted}
use Rattle.numbers.specs.Hilbert.{value_check}
use Rattle.numbers.specs.Numerator.{wiped, list_checks, cell_room, coefficient_rooms}

abbrev pub dimension_is : Option Refusal → ℕ → List (List ℕ) → Result Counted Refusal
dimension_is r n L = answer r (record { dimension = wide (dimension n L); top = top_degree n L })

abbrev pub at_once : ℕ → List (List ℕ) → Bool
at_once n L = unit_in L || n == 0

abbrev pub no_dimension : ℕ → ℕ → List (List ℕ) → Bool
no_dimension M n L = not (finite n L) || nat_lt M (degree_bound n L)

abbrev pub bound_checks : ℕ → ℕ → List (List ℕ) → List Check
bound_checks M n L = (no_dimension M n L, Dimension) ∷ value_check (powers_product n L) ∷ []

abbrev pub sum_room : ℕ → List ℕ → Check
sum_room k sums = (nat_lt (length sums) k, SumRoom)

abbrev pub room_checks : ℕ → List (List ℕ) → List ℕ → List ℤ → List ℤ → List ℕ → List Check
room_checks n L room p q sums =
    cell_room (cells_asked n L) room ∷ coefficient_rooms (coefficients_asked L) p q ∷ sum_room (dimension_words (degree_bound n L)) sums ∷ []

abbrev pub dimension_checks : ℕ → ℕ → ℕ → ℕ → ℕ → List ℕ → List ℕ → List ℤ → List ℤ → List ℕ → List Check
dimension_checks W C M n s cells room p q sums =
    list_checks W C n s cells
    ++ cond (at_once n (listed n s cells)) [] (bound_checks M n (listed n s cells) ++ room_checks n (listed n s cells) room p q sums)

abbrev pub dimension_answer : ℕ → ℕ → ℕ → ℕ → ℕ → List ℕ → List ℕ → List ℤ → List ℤ → List ℕ → Result Counted Refusal
dimension_answer W C M n s cells room p q sums = dimension_is (refusal (dimension_checks W C M n s cells room p q sums)) n (listed n s cells)

abbrev pub left : {A : Type 0} → Option Refusal → Bool → A → ℕ → List A → List A
left r once z k old = after r (cond once old (wiped z k old)) old

abbrev pub dimension_room : ℕ → ℕ → ℕ → ℕ → ℕ → List ℕ → List ℕ → List ℤ → List ℤ → List ℕ → List ℕ
dimension_room W C M n s cells room p q sums =
    left (refusal (dimension_checks W C M n s cells room p q sums)) (at_once n (listed n s cells)) 0 (cells_asked n (listed n s cells)) room

abbrev pub dimension_first : ℕ → ℕ → ℕ → ℕ → ℕ → List ℕ → List ℕ → List ℤ → List ℤ → List ℕ → List ℤ
dimension_first W C M n s cells room p q sums =
    left (refusal (dimension_checks W C M n s cells room p q sums)) (at_once n (listed n s cells)) (pos 0) (coefficients_asked (listed n s cells)) p

abbrev pub dimension_second : ℕ → ℕ → ℕ → ℕ → ℕ → List ℕ → List ℕ → List ℤ → List ℤ → List ℕ → List ℤ
dimension_second W C M n s cells room p q sums =
    left (refusal (dimension_checks W C M n s cells room p q sums)) (at_once n (listed n s cells)) (pos 0) (coefficients_asked (listed n s cells)) q

abbrev pub dimension_sums : ℕ → ℕ → ℕ → ℕ → ℕ → List ℕ → List ℕ → List ℤ → List ℤ → List ℕ → List ℕ
dimension_sums W C M n s cells room p q sums =
    left (refusal (dimension_checks W C M n s cells room p q sums)) (at_once n (listed n s cells)) 0 (dimension_words (degree_bound n (listed n s cells))) sums

-- a unit asks no room
test_unit : refusal (dimension_checks 255 60 65536 2 2 (1 ∷ 0 ∷ 0 ∷ 0 ∷ []) [] [] [] []) ≡ none
test_unit = refl

-- 13 comes before the rooms
test_infinite : refusal (dimension_checks 255 60 65536 2 1 (1 ∷ 0 ∷ []) [] [] [] []) ≡ some Dimension
test_infinite = refl
