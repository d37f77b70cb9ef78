-- `mask` meets its contract: a word from bit 0 on is the word of the mask's own bits. Rests on `word_of_ext`.
use Rattle.std.proofs.Common.{rules, ◌≡◌, ap, ap₂, ◌∙◌, ℕ, ◌+◌, Bool, zero-add, [], ◌∷◌}
use Rattle.laws.specs.Mask.{mask_bit, mask}
use Rattle.laws.proofs.Mask.{word_of_ext}
use Rattle.monomials.specs.Refusal.{refusal, too_wide}
use Rattle.monomials.specs.Mask.{of_words}
use Rattle.monomials.specs.declared.refusal.Refusal.{Refusal}
use Rattle.monomials.specs.declared.divmask.DivMask.{DivMask}
use Rattle.std.specs.Prelude.{Err}
use Rattle.monomials.proofs.Checks.{passed, refused, width_passed}
use Rattle.monomials.proofs.divmask.mask.Goals as goal

abbrev made : ℕ → ℕ → DivMask
made low high = record { low = low; high = high }

pub returns : goal.returns
returns c =
    let a = c.args in
    let bits : ℕ → Bool = mask_bit a.n a.max_deg a.exps.now in
    let e : made c.mask_word.result c.mask_word-2.result ≡ of_words (mask a.n a.max_deg a.exps.now) = ap₂ made (c.mask_word.ensures ∙ word_of_ext (λ i. bits (0 + i)) bits (λ i. ap bits (zero-add i)) 64) c.mask_word-2.ensures in
    rw e (passed (refusal (too_wide 255 a.n ∷ [])) (of_words (mask a.n a.max_deg a.exps.now)) _ c.in_ok-check_width.ensures)

pub returns-in_err-check_width : goal.returns-in_err-check_width
returns-in_err-check_width c =
    let a = c.args in
    let q : Refusal = c.in_err-check_width.field-0.0 in
    let e : c.from_residual.result ≡ Err q = search rules in
    e ∙ refused (refusal (too_wide 255 a.n ∷ [])) (of_words (mask a.n a.max_deg a.exps.now)) q c.in_err-check_width.ensures

pub mask_word-requires-2-clause-n_le_max_width : goal.mask_word-requires-2-clause-n_le_max_width
mask_word-requires-2-clause-n_le_max_width c = width_passed 255 c.args.n _ c.in_ok-check_width.ensures
