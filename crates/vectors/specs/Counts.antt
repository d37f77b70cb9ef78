-- Cases counted by their call's code; those that are wrong are counted under 0, which is no code.
--   one_more i xs == one more in place i, modulo 2^64
--   tallied code right xs == the counts after one case more
--   total xs      == all counts added
-- Assumes nothing.
use Rattle.std.specs.Prelude.{◌≡◌, ℕ, ◌+◌, ◌%◌, ◌^◌, Bool, true, false, cond, List, [], ◌∷◌, slice_index, slice_set, refl}

abbrev pub one_more : ℕ → List ℕ → List ℕ
one_more i xs = slice_set xs i ((slice_index xs i + 1) % 2 ^ 64)

abbrev pub tallied : ℕ → Bool → List ℕ → List ℕ
tallied code right xs = cond right (one_more code xs) (one_more 0 (one_more code xs))

abbrev pub total : List ℕ → ℕ
total [] = 0
total (x ∷ xs) = x + total xs

test_right : tallied 2 true (0 ∷ 3 ∷ 4 ∷ []) ≡ 0 ∷ 3 ∷ 5 ∷ []
test_right = refl

test_wrong : tallied 2 false (0 ∷ 3 ∷ 4 ∷ []) ≡ 1 ∷ 3 ∷ 5 ∷ []
test_wrong = refl
