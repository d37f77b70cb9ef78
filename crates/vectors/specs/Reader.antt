-- A place in a text, and what reading does to it.
--   MovedTo r at r' == r' is the same text as r, at the place `at`
-- Assumes nothing.
use Rattle.std.specs.Prelude.{◌≡◌, ℕ}
use Rattle.vectors.specs.declared.reader.Reader.{Reader}

abbrev pub MovedTo : Reader → ℕ → Reader → Type 0
MovedTo r at r' = (r'.text ≡ r.text) × (r'.at ≡ at)
