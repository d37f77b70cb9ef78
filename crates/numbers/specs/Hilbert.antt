-- The Hilbert function at a degree: the checks in their order, the answer, and what the room then holds. W is the greatest width, D the
-- greatest degree.
--   room_checks         == the checks that come before any work: 1, 10, 9
--   value_check         == check 11: the sum of the magnitudes reaches 2^127
--   hilbert_checks      == the order of checks: 1, 10, 9, 11
--   hilbert_answer      == the answer: a signed two-word number, which holds the value whole where 11 does not refuse (`hf_at_value` of promises)
--   hilbert_room        == the sum room after the call: zero in its asked part, unless one of 1, 10, 9 refused
-- Assumes nothing.
use Rattle.std.specs.Prelude.{ℕ, ◌^◌, List, [], ◌∷◌, ◌++◌, length, drop, replicate, ℤ, nat_le, nat_lt, Result}
use Rattle.laws.specs.Hilbert.{hilbert, hilbert_size}
use Rattle.laws.specs.Room.{hilbert_words}
use Rattle.monomials.specs.Refusal.{Check, refusal, after, too_wide, answer}
use Rattle.monomials.specs.declared.refusal.Refusal.{Refusal}
use Rattle.monomials.specs.declared.refusal.Refusal.TheVariants.{SumRoom, Degree, Value}
use Rattle.numbers.specs.Wide.{wide_of}
use Rattle.numbers.specs.declared.wide.Wide.{Wide}

abbrev pub room_checks : ℕ → ℕ → ℕ → ℕ → List ℕ → List Check
room_checks W D n d room = too_wide W n ∷ (nat_lt D d, Degree) ∷ (nat_lt (length room) (hilbert_words d), SumRoom) ∷ []

abbrev pub value_check : ℕ → Check
value_check size = (nat_le (2 ^ 127) size, Value)

abbrev pub hilbert_checks : ℕ → ℕ → ℕ → List ℤ → ℕ → List ℕ → List Check
hilbert_checks W D n p d room = room_checks W D n d room ++ value_check (hilbert_size p n d) ∷ []

abbrev pub hilbert_answer : ℕ → ℕ → ℕ → List ℤ → ℕ → List ℕ → Result Wide Refusal
hilbert_answer W D n p d room = answer (refusal (hilbert_checks W D n p d room)) (wide_of (hilbert p n d))

abbrev pub hilbert_room : ℕ → ℕ → ℕ → ℕ → List ℕ → List ℕ
hilbert_room W D n d room = after (refusal (room_checks W D n d room)) (replicate (hilbert_words d) 0 ++ drop (hilbert_words d) room) room
