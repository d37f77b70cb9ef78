-- The calls on ideal records: each one's checks in their order, its answer, and what is lent or handed back. W is the greatest width, C the
-- greatest count.
--   record_of n s cells                     == the record of what the cells list
--   not_record C rec                        == check 12: rec is no record of at most C monomials
--   write_checks, write_answer, write_bytes   the writer: 1, 2, 3, 14; the size; the output after the call
--   place_checks, place_answer, place_part    the reader of one monomial: 12, 4; the part that is handed back
--   copy_checks, copy_answer, copy_cells      the reader of all: 12, 14; width and count; the cells after the call
-- Assumes nothing.
use Rattle.std.specs.Prelude.{◌≡◌, refl, not, List, [], ◌∷◌, ◌++◌, ℕ, ◌*◌, ltb, leb, length, drop, replicate}
use Rattle.std.proofs.Math.Option.{Option, none, some}
use Rattle.laws.specs.Ideal.{listed}
use Rattle.laws.specs.Record.{ideal_record, is_record, width_in, count_in, exponents_in, part_of}
use Rattle.monomials.specs.Refusal.{Check, refusal, after, answer}
use Rattle.monomials.specs.declared.refusal.Refusal.{Refusal}
use Rattle.monomials.specs.declared.refusal.Refusal.TheVariants.{Width, Cells, Place, Record, Output}
use Rattle.numbers.specs.Numerator.{list_checks}
use Rattle.std.specs.Prelude.{Result, Ok, Err, ⊤}
use Rattle.records.specs.declared.ideal.Shape.{Shape}

-- the writer

-- the record of what the cells list
abbrev pub record_of : ℕ → ℕ → List ℕ → List ℕ
record_of n s cells = ideal_record n (listed n s cells)

abbrev pub write_checks : ℕ → ℕ → ℕ → ℕ → List ℕ → List ℕ → List Check
write_checks W C n s cells out = list_checks W C n s cells ++ (ltb (length out) (length (record_of n s cells)), Output) ∷ []

abbrev pub write_answer : ℕ → ℕ → ℕ → ℕ → List ℕ → List ℕ → Result ℕ Refusal
write_answer W C n s cells out = answer (refusal (write_checks W C n s cells out)) (length (record_of n s cells))

abbrev pub write_bytes : ℕ → ℕ → ℕ → ℕ → List ℕ → List ℕ → List ℕ
write_bytes W C n s cells out =
    after (refusal (write_checks W C n s cells out)) (record_of n s cells ++ drop (length (record_of n s cells)) out) out

-- the reader

abbrev pub not_record : ℕ → List ℕ → Check
not_record C rec = (not (is_record C rec), Record)

abbrev pub place_checks : ℕ → List ℕ → ℕ → List Check
place_checks C rec k = not_record C rec ∷ (leb (count_in rec) k, Place) ∷ []

abbrev pub place_answer : ℕ → List ℕ → ℕ → Result ⊤ Refusal
place_answer C rec k = answer (refusal (place_checks C rec k)) tt

abbrev pub place_part : ℕ → List ℕ → ℕ → List ℕ
place_part C rec k = after (refusal (place_checks C rec k)) (part_of rec k) []

abbrev pub copy_checks : ℕ → List ℕ → List ℕ → List Check
copy_checks C rec cells = not_record C rec ∷ (ltb (length cells) (count_in rec * width_in rec), Output) ∷ []

abbrev pub copy_answer : ℕ → List ℕ → List ℕ → Result Shape Refusal
copy_answer C rec cells = answer (refusal (copy_checks C rec cells)) (record { n = (width_in rec); m = (count_in rec) })

abbrev pub copy_cells : ℕ → List ℕ → List ℕ → List ℕ
copy_cells C rec cells = after (refusal (copy_checks C rec cells)) (exponents_in rec ++ drop (count_in rec * width_in rec) cells) cells

-- n=1, (5)(3)(3): one monomial, 9 bytes, and past them what the output held
test_write : write_answer 255 60 1 3 (5 ∷ 3 ∷ 3 ∷ []) (replicate 10 7) ≡ Ok 9
test_write = refl

test_written : write_bytes 255 60 1 3 (5 ∷ 3 ∷ 3 ∷ []) (replicate 10 7) ≡ 1 ∷ 0 ∷ 0 ∷ 0 ∷ 4 ∷ 1 ∷ 1 ∷ 0 ∷ 3 ∷ 7 ∷ []
test_written = refl

-- 1 comes before 2, and 3 before 14
test_wide_first : write_answer 255 60 256 61 [] [] ≡ Err Width
test_wide_first = refl

test_cells_first : write_answer 255 60 1 1 [] [] ≡ Err Cells
test_cells_first = refl

test_short : write_bytes 255 60 1 1 (3 ∷ []) (replicate 8 7) ≡ replicate 8 7
test_short = refl

-- 12 comes before 4; n=0 with one unit has place 0, whose part is empty, and no place 1
test_no_record : place_answer 60 [] 0 ≡ Err Record
test_no_record = refl

test_empty_part : place_answer 60 (1 ∷ 0 ∷ 0 ∷ 0 ∷ 2 ∷ 0 ∷ 1 ∷ []) 0 ≡ Ok tt
test_empty_part = refl

test_no_place : place_answer 60 (1 ∷ 0 ∷ 0 ∷ 0 ∷ 2 ∷ 0 ∷ 1 ∷ []) 1 ≡ Err Place
test_no_place = refl

test_copy : copy_cells 60 (1 ∷ 0 ∷ 0 ∷ 0 ∷ 4 ∷ 1 ∷ 1 ∷ 1 ∷ 3 ∷ []) (7 ∷ 7 ∷ []) ≡ 259 ∷ 7 ∷ []
test_copy = refl
