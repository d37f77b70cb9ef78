-- What slices hold that a case gives or lends. c says it: `count` integers of the text, zeros, and then the pattern.
--   bits_of i          == the 64 bits of the integer i
--   place_after k s at == the place after k integers that stand at `at`
--   wanted s c j       == element j of what c says, as 64 bits
--   byte_of b, cell_of b == the low 8 or 16 of 64 bits
--   byte_at, cell_at, word_at, coefficient_at == the same as an element of a slice
--   list_of n f        == f 0, .., f (n − 1)
--   every n p          == p holds of each number below n
--   list_at s at       == the list at `at`: its length, and then its elements
--   wiped k            == no integers, and k zeros
--   place_in s c n     == the place after as many of the integers as n elements take
--   compared s c xs    == whether xs has all the integers and is what c says, and the place after them
-- Assumes nothing.
use Rattle.std.specs.Prelude.{◌≡◌, ℕ, zero, suc, ◌+◌, ◌-◌, ◌%◌, ◌^◌, min, Bool, true, false, cond, ◌&&◌, List, [], ◌∷◌, ◌++◌, length, ℤ, nat_eq, nat_le, nat_lt, slice_index, refl}
use Rattle.std.specs.Int.{w64}
use Rattle.std.proofs.Common.{to_z}
use Rattle.vectors.specs.Text.{integer_at}
use Rattle.vectors.specs.declared.Integer.{Integer}
use Rattle.vectors.specs.declared.rooms.Contents.{Contents}
use Rattle.vectors.specs.declared.rooms.Compared.{Compared}

abbrev pub bits_of : Integer → ℕ
bits_of i = cond i.negative ((2 ^ 64 - i.magnitude) % 2 ^ 64) i.magnitude

abbrev pub place_after : ℕ → List ℕ → ℕ → ℕ
place_after zero s at = at
place_after (suc k) s at = (integer_at s (place_after k s at)).next

abbrev pub wanted : List ℕ → Contents → ℕ → ℕ
wanted s c j = cond (nat_lt j c.count) (bits_of (integer_at s (place_after j s c.at))) (cond (nat_lt j c.zeros) 0 (7 + j % 5))

abbrev pub byte_of : ℕ → ℕ
byte_of b = b % 2 ^ 8

abbrev pub cell_of : ℕ → ℕ
cell_of b = b % 2 ^ 16

abbrev pub byte_at : List ℕ → Contents → ℕ → ℕ
byte_at s c j = byte_of (wanted s c j)

abbrev pub cell_at : List ℕ → Contents → ℕ → ℕ
cell_at s c j = cell_of (wanted s c j)

abbrev pub word_at : List ℕ → Contents → ℕ → ℕ
word_at s c j = wanted s c j

abbrev pub coefficient_at : List ℕ → Contents → ℕ → ℤ
coefficient_at s c j = to_z w64 (wanted s c j)

abbrev pub list_of : {A : Type 0} → ℕ → (ℕ → A) → List A
list_of zero f = []
list_of (suc n) f = list_of n f ++ (f n ∷ [])

abbrev pub every : ℕ → (ℕ → Bool) → Bool
every zero p = true
every (suc n) p = every n p && p n

abbrev pub list_at : List ℕ → ℕ → Contents
list_at s at = record { at = (integer_at s at).next; count = (integer_at s at).magnitude; zeros = 0 }

abbrev pub wiped : ℕ → Contents
wiped k = record { at = 0; count = 0; zeros = k }

abbrev pub place_in : List ℕ → Contents → ℕ → ℕ
place_in s c n = place_after (min n c.count) s c.at

abbrev pub compared : List ℕ → Contents → List ℕ → Compared
compared s c xs =
    record { right = every (length xs) (λ j. nat_eq (slice_index xs j) (wanted s c j)) && nat_le c.count (length xs); next = place_in s c (length xs) }

-- "2 5 -1", then a line end: the list 5, −1
test_list : list_at (50 ∷ 32 ∷ 53 ∷ 32 ∷ 45 ∷ 49 ∷ 10 ∷ []) 0 ≡ record { at = 2; count = 2; zeros = 0 }
test_list = refl

-- in four elements, of which one more is zero: 5, −1, 0, 10
test_wanted : list_of 4 (wanted (50 ∷ 32 ∷ 53 ∷ 32 ∷ 45 ∷ 49 ∷ 10 ∷ []) (record { at = 2; count = 2; zeros = 3 })) ≡ 5 ∷ 18446744073709551615 ∷ 0 ∷ 10 ∷ []
test_wanted = refl

test_compared : compared (50 ∷ 32 ∷ 53 ∷ 32 ∷ 45 ∷ 49 ∷ 10 ∷ []) (record { at = 2; count = 1; zeros = 2 }) (5 ∷ 0 ∷ 9 ∷ []) ≡ record { right = true; next = 4 }
test_compared = refl

-- one integer more than there are elements
test_short : compared (50 ∷ 32 ∷ 53 ∷ 32 ∷ 45 ∷ 49 ∷ 10 ∷ []) (record { at = 2; count = 2; zeros = 2 }) (5 ∷ []) ≡ record { right = false; next = 4 }
test_short = refl
