-- The call behind the program `dim` and the host in C: an ideal record's bytes in, an answer record out. W is the greatest width, C the
-- greatest count, M the greatest degree bound, S the size of an answer record.
--   own_cells, own_coefficients, own_words == the call's own rooms: 16,384 exponent cells, 4,096 coefficients twice, 4,096 words
--   record_checks  == the dimension's checks, of what a record lists and in these rooms
--   host_checks    == the order of checks: 14, 12, then the dimension's
--   status r      == what an answer record says of a refusal: its number, and 0 where nothing is refused
--   host_answer    == the answer: done, or what is refused
--   host_number    == its number, which the answer record carries as its status
--   host_bytes     == the output after the call: the answer record, and past it what it held; after 14 all that it held
-- Assumes nothing.
use Rattle.std.specs.Prelude.{◌≡◌, refl, List, [], ◌∷◌, ◌++◌, ℕ, ℤ, pos, replicate}
use Rattle.std.proofs.Math.Option.{Option, none, some}
use Rattle.laws.specs.Dimension.{dimension, top_degree}
use Rattle.laws.specs.Record.{ideal_record, answer_record, width_in, count_in, exponents_in, list_in}
use Rattle.monomials.specs.Refusal.{Check, refusal, number, answer}
use Rattle.monomials.specs.declared.refusal.Refusal.{Refusal}
use Rattle.numbers.specs.Dimension.{dimension_checks}
use Rattle.records.specs.Answer.{answer_checks, answer_bytes}
use Rattle.records.specs.Ideal.{not_record}
use Rattle.std.specs.Prelude.{Result, ⊤}

abbrev pub own_cells : List ℕ
own_cells = replicate 16384 0

abbrev pub own_coefficients : List ℤ
own_coefficients = replicate 4096 (pos 0)

abbrev pub own_words : List ℕ
own_words = replicate 4096 0

abbrev pub record_checks : ℕ → ℕ → ℕ → List ℕ → List Check
record_checks W C M rec = dimension_checks W C M (width_in rec) (count_in rec) (exponents_in rec) own_cells own_coefficients own_coefficients own_words

abbrev pub host_checks : ℕ → ℕ → ℕ → ℕ → List ℕ → List ℕ → List Check
host_checks W C M S rec out = answer_checks S out ++ not_record C rec ∷ record_checks W C M rec

abbrev pub status : Option Refusal → ℕ
status none = 0
status (some r) = number r

abbrev pub host_answer : ℕ → ℕ → ℕ → ℕ → List ℕ → List ℕ → Result ⊤ Refusal
host_answer W C M S rec out = answer (refusal (host_checks W C M S rec out)) tt

abbrev pub host_number : ℕ → ℕ → ℕ → ℕ → List ℕ → List ℕ → ℕ
host_number W C M S rec out = status (refusal (host_checks W C M S rec out))

abbrev pub host_bytes : ℕ → ℕ → ℕ → ℕ → List ℕ → List ℕ → List ℕ
host_bytes W C M S rec out =
    answer_bytes S (host_number W C M S rec out) (dimension (width_in rec) (list_in rec)) (top_degree (width_in rec) (list_in rec)) out

-- of an output of k sevens

abbrev number_at : List ℕ → ℕ → ℕ
number_at rec k = host_number 255 60 65536 26 rec (replicate k 7)

abbrev bytes_at : List ℕ → ℕ → List ℕ
bytes_at rec k = host_bytes 255 60 65536 26 rec (replicate k 7)

test_done : bytes_at (ideal_record 2 ((2 ∷ 0 ∷ []) ∷ (1 ∷ 1 ∷ []) ∷ (0 ∷ 2 ∷ []) ∷ [])) 28 ≡ answer_record 0 3 2 ++ 7 ∷ 7 ∷ []
test_done = refl

-- the answer record carries the refusal, with both numbers 0
test_no_power : bytes_at (ideal_record 2 ((2 ∷ 0 ∷ []) ∷ [])) 26 ≡ answer_record 13 0 0
test_no_power = refl

test_no_record : bytes_at [] 27 ≡ answer_record 12 0 0 ++ 7 ∷ []
test_no_record = refl

-- 14 comes before 12, and nothing is written
test_short : number_at [] 25 ≡ 14
test_short = refl

test_nothing_written : bytes_at [] 25 ≡ replicate 25 7
test_nothing_written = refl

-- the rooms' ends: x^2048 has its words, x^2049 has not, x^4096 has not its coefficients
test_words : number_at (ideal_record 1 ((2048 ∷ []) ∷ [])) 26 ≡ 0
test_words = refl

test_no_words : number_at (ideal_record 1 ((2049 ∷ []) ∷ [])) 26 ≡ 9
test_no_words = refl

test_no_coefficients : number_at (ideal_record 1 ((4096 ∷ []) ∷ [])) 26 ≡ 8
test_no_coefficients = refl
