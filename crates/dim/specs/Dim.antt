-- What the program `dim` writes for its input: the answer record alone. W is the greatest width, C the greatest count, M the greatest degree
-- bound, S the size of an answer record.
--   dim_bytes W C M S input == what the host call leaves in an output that the answer record fills
-- Assumes nothing.
use Rattle.std.specs.Prelude.{◌≡◌, refl, List, [], ◌∷◌, ◌++◌, ℕ, replicate}
use Rattle.laws.specs.Record.{ideal_record, answer_record}
use Rattle.records.specs.Host.{host_bytes}

abbrev pub dim_bytes : ℕ → ℕ → ℕ → ℕ → List ℕ → List ℕ
dim_bytes W C M S input = host_bytes W C M S input (replicate S 0)

test_two_variables : dim_bytes 255 60 65536 26 (ideal_record 2 ((2 ∷ 0 ∷ []) ∷ (1 ∷ 1 ∷ []) ∷ (0 ∷ 2 ∷ []) ∷ [])) ≡ answer_record 0 3 2
test_two_variables = refl

test_no_input : dim_bytes 255 60 65536 26 [] ≡ answer_record 12 0 0
test_no_input = refl

test_trailing_byte : dim_bytes 255 60 65536 26 (ideal_record 1 ((3 ∷ []) ∷ []) ++ 0 ∷ []) ≡ answer_record 12 0 0
test_trailing_byte = refl
