-- What a call tells: the first `count` of its number and three values.
--   refused_by number, done_with count first second third == a refusal; 0 and values
--   told_of answer        == the words of a call's value, or its refusal
--   told_words t          == the words told
--   told_at at t          == as many integers, at `at`
--   answered s at t       == those words stand at `at`, and then the line ends
--   output_at s at number == what an output then holds: the list at `at` after 0, and else what it held, with nothing more at `at`
--   place_told s at t     == the place after them
--   written s at t xs     == those words stand at `at`, then xs is that output, and then the line ends
-- Assumes nothing.
use Rattle.std.specs.Prelude.{◌≡◌, ℕ, min, Bool, cond, ◌&&◌, List, [], ◌∷◌, take, ◌==◌, Result, Ok, Err, refl}
use Rattle.monomials.specs.Refusal.{number}
use Rattle.monomials.specs.declared.refusal.Refusal.{Refusal}
use Rattle.vectors.specs.Text.{line_ended}
use Rattle.vectors.specs.Rooms.{list_at, compared}
use Rattle.vectors.specs.declared.rooms.Contents.{Contents}
use Rattle.vectors.specs.declared.told.Told.{Told}

abbrev pub refused_by : ℕ → Told
refused_by number = record { count = 1; number = number; first = 0; second = 0; third = 0 }

abbrev pub done_with : ℕ → ℕ → ℕ → ℕ → Told
done_with count first second third = record { count = count; number = 0; first = first; second = second; third = third }

abbrev pub told_of : Result Told Refusal → Told
told_of (Ok told) = told
told_of (Err refusal) = refused_by (number refusal)

abbrev pub told_words : Told → List ℕ
told_words t = take (min t.count 4) (t.number ∷ t.first ∷ t.second ∷ t.third ∷ [])

abbrev pub told_at : ℕ → Told → Contents
told_at at t = record { at = at; count = min t.count 4; zeros = 0 }

abbrev pub answered : List ℕ → ℕ → Told → Bool
answered s at t = (compared s (told_at at t) (told_words t)).right && line_ended s (compared s (told_at at t) (told_words t)).next

abbrev pub output_at : List ℕ → ℕ → ℕ → Contents
output_at s at number = cond (number == 0) (list_at s at) (record { at = at; count = 0; zeros = 0 })

abbrev pub place_told : List ℕ → ℕ → Told → ℕ
place_told s at t = (compared s (told_at at t) (told_words t)).next

abbrev pub written : List ℕ → ℕ → Told → List ℕ → Bool
written s at t xs =
    (compared s (told_at at t) (told_words t)).right && (compared s (output_at s (place_told s at t) t.number) xs).right
    && line_ended s (compared s (output_at s (place_told s at t) t.number) xs).next

test_refused : told_words (refused_by 13) ≡ 13 ∷ []
test_refused = refl

test_done : told_words (done_with 3 5 6 7) ≡ 0 ∷ 5 ∷ 6 ∷ []
test_done = refl
