-- A text of cases, replayed line by line.
--   AreLines s at xs     == xs are the places at which the lines of s start, from the one at `at` on
--   counted code says p  == the counts p.0, and how many cases were none of the program's, p.1, after one case more
--   Replays s Says p at q == the line at `at` takes p to q: a comment nothing, and a case is counted as Says has it
--   ReadFrom s Says code at says == what Says has of the case in s whose arguments start at `at`
-- Assumes nothing.
use Rattle.std.specs.Prelude.{◌≡◌, ◌≢◌, ℕ, ◌+◌, ◌%◌, ◌^◌, ◌<◌, ◌≤◌, Bool, List, [], ◌∷◌, Option, Some, None, length}
use Rattle.vectors.specs.Text.{integer_at, line_after}
use Rattle.vectors.specs.Counts.{tallied}
use Rattle.vectors.specs.declared.reader.Reader.{Reader}

abbrev pub AreLines : List ℕ → ℕ → List ℕ → Type 0
AreLines s at [] = length s ≤ at
AreLines s at (x ∷ xs) = (x ≡ at) × (at < length s) × AreLines s (line_after s at) xs

abbrev pub counted : ℕ → Option Bool → List ℕ × ℕ → List ℕ × ℕ
counted code (Some right) p = (tallied code right p.0, p.1)
counted code None p = (p.0, (p.1 + 1) % 2 ^ 64)

abbrev pub Replays : List ℕ → (ℕ → ℕ → Option Bool → Type 0) → List ℕ × ℕ → ℕ → List ℕ × ℕ → Type 0
Replays s Says p at q =
    ((integer_at s at).magnitude ≡ 0 → q ≡ p)
    × ((integer_at s at).magnitude ≢ 0 → (says : Option Bool) × Says (integer_at s at).magnitude (integer_at s at).next says × (q ≡ counted (integer_at s at).magnitude says p))

abbrev pub ReadFrom : List ℕ → (ℕ → Reader → Option Bool → Type 0) → ℕ → ℕ → Option Bool → Type 0
ReadFrom s Says code at says = (case : Reader) × (case.text.now ≡ s) × (case.at ≡ at) × Says code case says
