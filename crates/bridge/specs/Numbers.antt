-- The answers of the calls on coefficient lists, of the numerator, the Hilbert function and the dimension, as the bridge tells them.
--   .._words x     == the words of a value
--   of_word x      == the word x
--   of_degree a    == 1 and the degree, or 0 for none
--   of_signed a    == the low word, the high word
--   of_length a    == the length
--   of_dimension a == the low word, the high word, the top degree
-- Assumes nothing.
use Rattle.std.specs.Prelude.{◌≡◌, refl, List, [], ◌∷◌, ℕ, ◌-◌, ◌^◌, pos, negsuc, replicate, Option, Some, None, Result, Ok}
use Rattle.numbers.specs.Coefficients.{degree_of}
use Rattle.numbers.specs.Hilbert.{hilbert_answer}
use Rattle.monomials.specs.declared.refusal.Refusal.{Refusal}
use Rattle.numbers.specs.declared.wide.Wide.{Wide}
use Rattle.numbers.specs.declared.dimension.Dimension.{Dimension}
use Rattle.bridge.specs.Told.{told_by, number_in, values_in}
use Rattle.bridge.specs.Monomials.{number_words}

abbrev pub degree_words : Option ℕ → List ℕ
degree_words (Some d) = 1 ∷ d ∷ 0 ∷ []
degree_words None = 0 ∷ 0 ∷ 0 ∷ []

abbrev pub signed_words : Wide → List ℕ
signed_words w = w.low ∷ w.high ∷ 0 ∷ []

abbrev pub dimension_words : Dimension → List ℕ
dimension_words d = d.dimension.low ∷ d.dimension.high ∷ d.top ∷ []

abbrev pub of_word : ℕ → Result (List ℕ) Refusal
of_word x = Ok (number_words x)

abbrev pub of_degree : Option ℕ → Result (List ℕ) Refusal
of_degree a = Ok (degree_words a)

abbrev pub of_signed : Result Wide Refusal → Result (List ℕ) Refusal
of_signed a = told_by signed_words a

abbrev pub of_length : Result ℕ Refusal → Result (List ℕ) Refusal
of_length a = told_by number_words a

abbrev pub of_dimension : Result Dimension Refusal → Result (List ℕ) Refusal
of_dimension a = told_by dimension_words a

test_degree : values_in (of_degree (degree_of (pos 1 ∷ negsuc 1 ∷ pos 0 ∷ []))) (9 ∷ 8 ∷ 7 ∷ 6 ∷ []) ≡ 1 ∷ 1 ∷ 0 ∷ 0 ∷ []
test_degree = refl

test_none : values_in (of_degree (degree_of (pos 0 ∷ []))) (9 ∷ 8 ∷ 7 ∷ 6 ∷ []) ≡ 0 ∷ 0 ∷ 0 ∷ 0 ∷ []
test_none = refl

-- coefficients [−2^63], n = 1, d = 0: −2^63
test_least : values_in (of_signed (hilbert_answer 255 65536 1 (negsuc (2 ^ 63 - 1) ∷ []) 0 (replicate 4 0))) (9 ∷ 8 ∷ 7 ∷ 6 ∷ []) ≡ 2 ^ 63 ∷ (2 ^ 64 - 1) ∷ 0 ∷ 0 ∷ []
test_least = refl

-- a room of 3 words at degree 0: number 9
test_room : number_in (of_signed (hilbert_answer 255 65536 1 (pos 1 ∷ []) 0 (replicate 3 0))) ≡ 9
test_room = refl
