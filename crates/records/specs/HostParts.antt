-- What the private functions behind the host call do. No public contract cites this file.
--   record_answer  == the dimension of what a record lists, or what is refused: 12, then the dimension's checks in the call's own rooms
--   told a         == what the call answers of a dimension's answer: done, or what is refused
--   told_bytes a   == the answer record that tells it
-- Assumes nothing.
use Rattle.std.specs.Prelude.{List, ◌∷◌, ℕ, Result, Ok, Err, ⊤}
use Rattle.laws.specs.Record.{answer_record, width_in, list_in}
use Rattle.monomials.specs.Refusal.{refusal, number}
use Rattle.monomials.specs.declared.refusal.Refusal.{Refusal}
use Rattle.numbers.specs.Wide.{value}
use Rattle.numbers.specs.declared.dimension.Dimension.{Dimension}
use Rattle.numbers.specs.Dimension.{dimension_is}
use Rattle.records.specs.Host.{record_checks}
use Rattle.records.specs.Ideal.{not_record}

abbrev pub record_answer : ℕ → ℕ → ℕ → List ℕ → Result Dimension Refusal
record_answer W C M rec = dimension_is (refusal (not_record C rec ∷ record_checks W C M rec)) (width_in rec) (list_in rec)

abbrev pub told : Result Dimension Refusal → Result ⊤ Refusal
told (Ok d) = Ok tt
told (Err r) = Err r

abbrev pub told_bytes : Result Dimension Refusal → List ℕ
told_bytes (Ok d) = answer_record 0 (value d.dimension) d.top
told_bytes (Err r) = answer_record (number r) 0 0
