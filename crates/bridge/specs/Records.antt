-- The answers of the calls on ideal records, as the bridge tells them. P is the size of the greatest part, C the greatest count.
--   shape_words s  == the words of a width and a count
--   of_size a      == the size
--   of_check a x   == x where nothing is wrong
--   of_copy a      == the width, the count
--   place_told     == 14 where the output is shorter than P, before all else; then the place's refusal, or the length of the part
--   place_bytes    == the output after that call: the part, then what stood there
-- Assumes nothing.
use Rattle.std.specs.Prelude.{◌≡◌, refl, cond, List, [], ◌∷◌, ◌++◌, ℕ, ltb, length, drop, replicate, Result, Err, ⊤}
use Rattle.laws.specs.Record.{ideal_record}
use Rattle.monomials.specs.declared.refusal.Refusal.{Refusal}
use Rattle.monomials.specs.declared.refusal.Refusal.TheVariants.{Output}
use Rattle.records.specs.Ideal.{place_answer, place_part}
use Rattle.records.specs.declared.ideal.Shape.{Shape}
use Rattle.bridge.specs.Told.{told_by, number_in, values_in}
use Rattle.bridge.specs.Monomials.{number_words}

abbrev pub shape_words : Shape → List ℕ
shape_words s = s.n ∷ s.m ∷ 0 ∷ []

abbrev pub of_size : Result ℕ Refusal → Result (List ℕ) Refusal
of_size a = told_by number_words a

abbrev pub of_check : Result ⊤ Refusal → ℕ → Result (List ℕ) Refusal
of_check a x = told_by (λ _. number_words x) a

abbrev pub of_copy : Result Shape Refusal → Result (List ℕ) Refusal
of_copy a = told_by shape_words a

abbrev pub place_told : ℕ → ℕ → List ℕ → ℕ → List ℕ → Result (List ℕ) Refusal
place_told P C rec k out = cond (ltb (length out) P) (Err Output) (of_check (place_answer C rec k) (length (place_part C rec k)))

abbrev pub place_bytes : ℕ → ℕ → List ℕ → ℕ → List ℕ → List ℕ
place_bytes P C rec k out = cond (ltb (length out) P) out (place_part C rec k ++ drop (length (place_part C rec k)) out)

-- the record of (2,0)(1,1)(0,2): at place 1 stands (1,1)
test_place : place_bytes 4 60 (ideal_record 2 ((2 ∷ 0 ∷ []) ∷ (1 ∷ 1 ∷ []) ∷ (0 ∷ 2 ∷ []) ∷ [])) 1 (replicate 5 9) ≡ 0 ∷ 1 ∷ 0 ∷ 1 ∷ 9 ∷ []
test_place = refl

test_place_told : values_in (place_told 4 60 (ideal_record 2 ((2 ∷ 0 ∷ []) ∷ (1 ∷ 1 ∷ []) ∷ (0 ∷ 2 ∷ []) ∷ [])) 1 (replicate 5 9)) (9 ∷ 8 ∷ 7 ∷ 6 ∷ []) ≡ 4 ∷ 0 ∷ 0 ∷ 0 ∷ []
test_place_told = refl

-- a shorter output: 14, whatever the record
test_place_short : number_in (place_told 4 60 [] 1 (replicate 3 9)) ≡ 14
test_place_short = refl
