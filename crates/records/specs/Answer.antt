-- The call that writes an answer record. S is its size.
--   answer_checks S out        == the order of checks: 14
--   answer_of s x t            == the record with status s, dimension x and top degree t; where s is not 0, both numbers are 0
--   answer_outcome, answer_bytes == the answer, and the output after the call
-- Assumes nothing.
use Rattle.std.specs.Prelude.{◌≡◌, refl, cond, List, [], ◌∷◌, ◌++◌, ℕ, ltb, eqb, length, drop, replicate}
use Rattle.laws.specs.Record.{answer_record}
use Rattle.monomials.specs.Refusal.{Check, refusal, after, answer}
use Rattle.monomials.specs.declared.refusal.Refusal.TheVariants.{Output}
use Rattle.std.specs.Prelude.{Result, ⊤}
use Rattle.monomials.specs.declared.refusal.Refusal.{Refusal}

abbrev pub answer_checks : ℕ → List ℕ → List Check
answer_checks S out = (ltb (length out) S, Output) ∷ []

abbrev pub answer_of : ℕ → ℕ → ℕ → List ℕ
answer_of s x t = cond (eqb s 0) (answer_record 0 x t) (answer_record s 0 0)

abbrev pub answer_outcome : ℕ → List ℕ → Result ⊤ Refusal
answer_outcome S out = answer (refusal (answer_checks S out)) tt

abbrev pub answer_bytes : ℕ → ℕ → ℕ → ℕ → List ℕ → List ℕ
answer_bytes S s x t out = after (refusal (answer_checks S out)) (answer_of s x t ++ drop S out) out

-- with a refusal both numbers are zero
test_refused : answer_of 13 3 2 ≡ answer_record 13 0 0
test_refused = refl

test_kept : answer_bytes 26 0 3 2 (replicate 27 7) ≡ answer_record 0 3 2 ++ 7 ∷ []
test_kept = refl

test_short : answer_bytes 26 0 3 2 (replicate 25 7) ≡ replicate 25 7
test_short = refl
