-- The answers of the calls on monomials and masks, as the bridge tells them.
--   .._words x    == the words of a value, where it has any
--   of_number a   == the number
--   of_write a    == no words
--   of_test a     == 1 for yes, 0 for no
--   of_order a    == 0 less, 1 equal, 2 greater
--   of_mask a     == the low word, the high word
-- Assumes nothing.
use Rattle.std.specs.Prelude.{◌≡◌, refl, Bool, List, [], ◌∷◌, ℕ, Result, ⊤}
use Rattle.laws.specs.Monomial.{power}
use Rattle.monomials.specs.Monomial.{degree_answer, exponent_answer, degrevlex_answer}
use Rattle.monomials.specs.Mask.{mask_answer}
use Rattle.std.specs.declared.cmp.Ordering.{Ordering as Order}
use Rattle.monomials.specs.declared.divmask.DivMask.{DivMask}
use Rattle.monomials.specs.declared.refusal.Refusal.{Refusal}
use Rattle.bridge.specs.Told.{told_by, number_in, values_in, bit_of}

abbrev pub number_words : ℕ → List ℕ
number_words x = x ∷ 0 ∷ 0 ∷ []

abbrev pub no_words : ⊤ → List ℕ
no_words x = 0 ∷ 0 ∷ 0 ∷ []

abbrev pub test_words : Bool → List ℕ
test_words b = bit_of b ∷ 0 ∷ 0 ∷ []

abbrev pub order_word : Order → ℕ
order_word Order.Less = 0
order_word Order.Equal = 1
order_word Order.Greater = 2

abbrev pub order_words : Order → List ℕ
order_words o = order_word o ∷ 0 ∷ 0 ∷ []

abbrev pub mask_words : DivMask → List ℕ
mask_words m = m.low ∷ m.high ∷ 0 ∷ []

abbrev pub of_number : Result ℕ Refusal → Result (List ℕ) Refusal
of_number a = told_by number_words a

abbrev pub of_write : Result ⊤ Refusal → Result (List ℕ) Refusal
of_write a = told_by no_words a

abbrev pub of_test : Result Bool Refusal → Result (List ℕ) Refusal
of_test a = told_by test_words a

abbrev pub of_order : Result Order Refusal → Result (List ℕ) Refusal
of_order a = told_by order_words a

abbrev pub of_mask : Result DivMask Refusal → Result (List ℕ) Refusal
of_mask a = told_by mask_words a

test_degree : values_in (of_number (degree_answer 255 (2 ∷ 3 ∷ []))) (9 ∷ 9 ∷ 9 ∷ 9 ∷ []) ≡ 5 ∷ 0 ∷ 0 ∷ 0 ∷ []
test_degree = refl

-- a variable that is not there: number 4, and nothing is written
test_exponent : number_in (of_number (exponent_answer 255 (2 ∷ 3 ∷ []) 2)) ≡ 4
test_exponent = refl

test_exponent_held : values_in (of_number (exponent_answer 255 (2 ∷ 3 ∷ []) 2)) (9 ∷ 8 ∷ 7 ∷ 6 ∷ []) ≡ 9 ∷ 8 ∷ 7 ∷ 6 ∷ []
test_exponent_held = refl

-- width 64, greatest exponent 4: exponent 3 in variable 32 sets bit 64 only
test_mask : values_in (of_mask (mask_answer 255 64 4 (power 64 32 3))) (9 ∷ 8 ∷ 7 ∷ 6 ∷ []) ≡ 0 ∷ 1 ∷ 0 ∷ 0 ∷ []
test_mask = refl

test_degrevlex : values_in (of_order (degrevlex_answer 255 (1 ∷ 1 ∷ []) (2 ∷ 0 ∷ []))) (9 ∷ 8 ∷ 7 ∷ 6 ∷ []) ≡ 0 ∷ 0 ∷ 0 ∷ 0 ∷ []
test_degrevlex = refl
