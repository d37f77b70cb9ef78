-- The call for a mask, and a mask as the list of its words.
--   words m              == the low word, the high word
--   mask_answer W n M exps == the answer for width n and greatest exponent M; W is the greatest width
-- Assumes nothing.
use Rattle.std.specs.Prelude.{List, [], ◌∷◌, ℕ, get_or, Result}
use Rattle.laws.specs.Mask.{mask}
use Rattle.monomials.specs.Refusal.{refusal, answer, too_wide}
use Rattle.monomials.specs.declared.refusal.Refusal.{Refusal}
use Rattle.monomials.specs.declared.divmask.DivMask.{DivMask}

abbrev pub words : DivMask → List ℕ
words m = m.low ∷ m.high ∷ []

abbrev pub of_words : List ℕ → DivMask
of_words ws = record { low = get_or ws 0 0; high = get_or ws 1 0 }

abbrev pub mask_answer : ℕ → ℕ → ℕ → List ℕ → Result DivMask Refusal
mask_answer W n M exps = answer (refusal (too_wide W n ∷ [])) (of_words (mask n M exps))
