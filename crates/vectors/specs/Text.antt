-- Decimal integers in a text of bytes.
--   largest         == the largest word
--   is_digit b      == the byte b is one of 0 .. 9
--   is_minus s at   == a minus stands at `at`
--   digits s        == the digits with which s begins
--   value_of v ds   == the number that the digits ds make, written after the number v
--   magnitude_of s  == the number with which s begins, or the largest word where it is larger; 0 where there is no digit
--   end_of s at     == the place after the digits at `at` and the byte that ends them, if there is one
--   integer_at s at == the integer at `at`
--   line_after s at == where the line after the one at `at` starts
--   line_ended s at == the byte before `at` ends a line
-- Assumes nothing.
use Rattle.std.specs.Prelude.{◌≡◌, ℕ, suc, ◌+◌, ◌-◌, ◌*◌, ◌^◌, min, Bool, true, false, cond, not, ◌&&◌, List, [], ◌∷◌, length, drop, ◌==◌, nat_le, slice_index, refl}
use Rattle.vectors.specs.declared.Integer.{Integer}

abbrev pub largest : ℕ
largest = 2 ^ 64 - 1

abbrev pub is_digit : ℕ → Bool
is_digit b = nat_le 48 b && nat_le b 57

abbrev pub is_minus : List ℕ → ℕ → Bool
is_minus s at = slice_index s at == 45

abbrev pub digits : List ℕ → List ℕ
digits [] = []
digits (b ∷ s) = cond (is_digit b) ((b - 48) ∷ digits s) []

abbrev pub value_of : ℕ → List ℕ → ℕ
value_of v [] = v
value_of v (d ∷ ds) = value_of (v * 10 + d) ds

abbrev pub magnitude_of : List ℕ → ℕ
magnitude_of s = min (value_of 0 (digits s)) largest

abbrev pub end_of : List ℕ → ℕ → ℕ
end_of s at = at + min (suc (length (digits (drop at s)))) (length (drop at s))

abbrev pub integer_from : Bool → List ℕ → ℕ → Integer
integer_from sign s at = record { negative = sign; magnitude = magnitude_of (drop at s); next = end_of s at }

abbrev pub integer_at : List ℕ → ℕ → Integer
integer_at s at = cond (is_minus s at) (integer_from true s (at + 1)) (integer_from false s at)

abbrev pub line_length : List ℕ → ℕ
line_length [] = 0
line_length (b ∷ s) = cond (b == 10) 1 (suc (line_length s))

abbrev pub line_after : List ℕ → ℕ → ℕ
line_after s at = at + line_length (drop at s)

abbrev pub line_ended : List ℕ → ℕ → Bool
line_ended s at = not (at == 0) && slice_index s (at - 1) == 10

-- "12 -7", then a line end
test_first : integer_at (49 ∷ 50 ∷ 32 ∷ 45 ∷ 55 ∷ 10 ∷ []) 0 ≡ record { negative = false; magnitude = 12; next = 3 }
test_first = refl

test_second : integer_at (49 ∷ 50 ∷ 32 ∷ 45 ∷ 55 ∷ 10 ∷ []) 3 ≡ record { negative = true; magnitude = 7; next = 6 }
test_second = refl

test_past : integer_at (49 ∷ []) 1 ≡ record { negative = false; magnitude = 0; next = 1 }
test_past = refl

test_line : line_after (49 ∷ 50 ∷ 10 ∷ 45 ∷ []) 1 ≡ 3
test_line = refl

test_ended : line_ended (49 ∷ 50 ∷ 10 ∷ 45 ∷ []) 3 ≡ true
test_ended = refl
