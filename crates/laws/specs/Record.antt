-- The bytes of the two records. The ideal record is defined for a list of any length.
--   big_endian k x   == the low k bytes of x, the greatest first
--   value bytes     == the number that bytes give, the greatest first
--   framed v body   == version v, the length of the body in four bytes, the body
--   exponent_bytes L == all exponents of L, one monomial after another, two bytes each
--   header n m      == what stands before the exponents in version 1: the width and the count, a byte each
--   written n L     == the record that lists L as it stands
--   ideal_record n L == the record of L: its minimal members, each once, DegRevLex greatest first
--   cells_in bytes   == the two-byte numbers that follow one another in bytes, the greater byte first
--   width_in, count_in, exponents_in == what bytes say they hold: the width in byte 5, the count in byte 6, the exponents after it
--   list_in bytes    == what bytes list
--   is_record C bytes == bytes list at most C monomials with all their exponents, and writing out what they list gives those bytes again
--   part_of bytes k  == the exponent bytes of monomial k
--   answer_record s x t == the answer record with status s, dimension x and top degree t
-- Assumes nothing.
use Rattle.std.specs.Prelude.{◌≡◌, refl, Bool, true, false, ◌&&◌, List, [], ◌∷◌, ◌++◌, ℕ, zero, suc, ◌+◌, ◌*◌, ◌/◌, ◌%◌, ◌^◌, leb, eqb, length, get_or, take, drop}
use Rattle.laws.specs.Ideal.{listed}
use Rattle.laws.specs.Count.{equal}
use Rattle.laws.specs.Minimal.{minimal}

abbrev pub big_endian : ℕ → ℕ → List ℕ
big_endian zero x = []
big_endian (suc k) x = (x / 256 ^ k % 256) ∷ big_endian k x

abbrev pub value : List ℕ → ℕ
value [] = 0
value (b ∷ bs) = b * 256 ^ length bs + value bs

abbrev pub framed : ℕ → List ℕ → List ℕ
framed v body = v ∷ big_endian 4 (length body) ++ body

abbrev pub monomial_bytes : List ℕ → List ℕ
monomial_bytes [] = []
monomial_bytes (x ∷ m) = big_endian 2 x ++ monomial_bytes m

abbrev pub exponent_bytes : List (List ℕ) → List ℕ
exponent_bytes [] = []
exponent_bytes (m ∷ L) = monomial_bytes m ++ exponent_bytes L

abbrev pub header : ℕ → ℕ → List ℕ
header n m = n ∷ m ∷ []

abbrev pub written : ℕ → List (List ℕ) → List ℕ
written n L = framed 1 (header n (length L) ++ exponent_bytes L)

abbrev pub ideal_record : ℕ → List (List ℕ) → List ℕ
ideal_record n L = written n (minimal L)

abbrev pub cells_in : List ℕ → List ℕ
cells_in [] = []
cells_in (x ∷ []) = []
cells_in (x ∷ y ∷ bytes) = (256 * x + y) ∷ cells_in bytes

abbrev pub width_in : List ℕ → ℕ
width_in bytes = get_or bytes 5 0

abbrev pub count_in : List ℕ → ℕ
count_in bytes = get_or bytes 6 0

abbrev pub exponents_in : List ℕ → List ℕ
exponents_in bytes = cells_in (drop 7 bytes)

abbrev pub list_in : List ℕ → List (List ℕ)
list_in bytes = listed (width_in bytes) (count_in bytes) (exponents_in bytes)

abbrev pub is_record : ℕ → List ℕ → Bool
is_record C bytes =
    leb (count_in bytes) C
    && (eqb (length (exponents_in bytes)) (count_in bytes * width_in bytes)
    && equal bytes (ideal_record (width_in bytes) (list_in bytes)))

abbrev pub part_of : List ℕ → ℕ → List ℕ
part_of bytes k = take (2 * width_in bytes) (drop (7 + 2 * width_in bytes * k) bytes)

abbrev pub answer_record : ℕ → ℕ → ℕ → List ℕ
answer_record s x t = framed 1 (s ∷ big_endian 16 x ++ big_endian 4 t)

-- 01 0000000E 02 03 0002 0000 0001 0001 0000 0002
test_two_variables :
    ideal_record 2 ((0 ∷ 2 ∷ []) ∷ (1 ∷ 1 ∷ []) ∷ (2 ∷ 0 ∷ []) ∷ [])
    ≡ 1 ∷ 0 ∷ 0 ∷ 0 ∷ 14 ∷ 2 ∷ 3 ∷ 0 ∷ 2 ∷ 0 ∷ 0 ∷ 0 ∷ 1 ∷ 0 ∷ 1 ∷ 0 ∷ 0 ∷ 0 ∷ 2 ∷ []
test_two_variables = refl

-- n = 0, one unit: 01 00000002 00 01
test_no_variables_unit : ideal_record 0 ([] ∷ []) ≡ 1 ∷ 0 ∷ 0 ∷ 0 ∷ 2 ∷ 0 ∷ 1 ∷ []
test_no_variables_unit = refl

test_big_endian : big_endian 2 65535 ≡ 255 ∷ 255 ∷ []
test_big_endian = refl

test_taken : is_record 60 (1 ∷ 0 ∷ 0 ∷ 0 ∷ 14 ∷ 2 ∷ 3 ∷ 0 ∷ 2 ∷ 0 ∷ 0 ∷ 0 ∷ 1 ∷ 0 ∷ 1 ∷ 0 ∷ 0 ∷ 0 ∷ 2 ∷ []) ≡ true
test_taken = refl

-- the order given is not the record's
test_order : is_record 60 (1 ∷ 0 ∷ 0 ∷ 0 ∷ 6 ∷ 1 ∷ 2 ∷ 0 ∷ 2 ∷ 0 ∷ 3 ∷ []) ≡ false
test_order = refl

-- two monomials of width 2 with three exponents
test_ragged : is_record 60 (1 ∷ 0 ∷ 0 ∷ 0 ∷ 8 ∷ 2 ∷ 2 ∷ 0 ∷ 2 ∷ 0 ∷ 0 ∷ 0 ∷ 1 ∷ []) ≡ false
test_ragged = refl

-- the same with exponents 0, 2, 1: writing these out would give the bytes again, so the exponents are counted as well
test_short : is_record 60 (1 ∷ 0 ∷ 0 ∷ 0 ∷ 8 ∷ 2 ∷ 2 ∷ 0 ∷ 0 ∷ 0 ∷ 2 ∷ 0 ∷ 1 ∷ []) ≡ false
test_short = refl

test_short_written : ideal_record 2 (listed 2 2 (0 ∷ 2 ∷ 1 ∷ [])) ≡ 1 ∷ 0 ∷ 0 ∷ 0 ∷ 8 ∷ 2 ∷ 2 ∷ 0 ∷ 0 ∷ 0 ∷ 2 ∷ 0 ∷ 1 ∷ []
test_short_written = refl

test_part : part_of (1 ∷ 0 ∷ 0 ∷ 0 ∷ 14 ∷ 2 ∷ 3 ∷ 0 ∷ 2 ∷ 0 ∷ 0 ∷ 0 ∷ 1 ∷ 0 ∷ 1 ∷ 0 ∷ 0 ∷ 0 ∷ 2 ∷ []) 1 ≡ 0 ∷ 1 ∷ 0 ∷ 1 ∷ []
test_part = refl

-- 01 00000015 00, fifteen 00, 03, 00000002
test_answer_lem :
    answer_record 0 3 2
    ≡ 1 ∷ 0 ∷ 0 ∷ 0 ∷ 21 ∷ 0 ∷ 0 ∷ 0 ∷ 0 ∷ 0 ∷ 0 ∷ 0 ∷ 0 ∷ 0 ∷ 0 ∷ 0 ∷ 0 ∷ 0 ∷ 0 ∷ 0 ∷ 0 ∷ 3 ∷ 0 ∷ 0 ∷ 0 ∷ 2 ∷ []
test_answer_lem = refl
