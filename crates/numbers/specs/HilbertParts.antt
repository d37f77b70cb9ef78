-- What the private steps of `hf_at` promise to one another; no public contract cites it.
--   number_at words k       == number k of a list of two-word numbers: words 2k and 2k + 1
--   modulo v, capped v      == what a sum that is v keeps of it: v modulo 2^128, or v held down to 2^127
--   KeepsSums kept          == what is kept of a sum depends on what is kept of its terms alone
-- In this file: that both keep sums (modulo_keeps, capped_keeps).
-- Assumes nothing.
use Rattle.std.specs.Prelude.{◌≡◌, ℕ, ◌+◌, ◌*◌, ◌%◌, ◌^◌, min, List, slice_index}
use Rattle.std.proofs.Common.{sym, ap₂, ◌∙◌}
use native.Mathlib.Nat.{add-mod}
use Rattle.laws.specs.Word.{pair}
use Rattle.laws.proofs.Sums.{capped_add}

abbrev pub number_at : List ℕ → ℕ → ℕ
number_at words k = pair (2 ^ 64) (slice_index words (2 * k)) (slice_index words (2 * k + 1))

abbrev pub modulo : ℕ → ℕ
modulo v = v % 2 ^ 128

abbrev pub capped : ℕ → ℕ
capped v = min v (2 ^ 127)

pub record KeepsSums (kept : ℕ → ℕ) : Type 0 where
  pub sums : (a a' b b' : ℕ) → kept a ≡ kept a' → kept b ≡ kept b' → kept (a + b) ≡ kept (a' + b')

pub modulo_keeps : KeepsSums modulo
modulo_keeps =
    record { sums = λ a a' b b' h k. add-mod a b (2 ^ 128) ∙ ap₂ (λ (x y : ℕ). (x + y) % 2 ^ 128) h k ∙ sym (add-mod a' b' (2 ^ 128)) }

pub capped_keeps : KeepsSums capped
capped_keeps = record { sums = λ a a' b b' h k. capped_add (2 ^ 127) a a' b b' h k }
