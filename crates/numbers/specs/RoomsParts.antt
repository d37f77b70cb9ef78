-- What the checks of a call on lists promise to it; no public contract cites it.
-- For s monomials in the cells xs and t in ys; `large` says that a given coefficient is too large, the last three numbers are the rooms' lengths:
--   rooms_checks n s xs t ys large least room first second == the checks in their order: 1, 2, 3 first list, 3 second list, 15, 7, 8
--   rooms_answer n s xs t ys large least room first second == the refusal, if any, or else the sizes asked, of coefficients at least `least`
-- Assumes nothing.
use Rattle.std.specs.Prelude.{ℕ, ◌+◌, max, Bool, ◌||◌, List, [], ◌∷◌, ◌++◌, nat_lt, Result}
use Rattle.laws.specs.Ideal.{listed}
use Rattle.laws.specs.Room.{cells_asked, coefficients_asked}
use Rattle.monomials.specs.Refusal.{Check, refusal, answer, too_wide}
use Rattle.monomials.specs.declared.refusal.Refusal.{Refusal}
use Rattle.monomials.specs.declared.refusal.Refusal.TheVariants.{Coefficient, CellRoom, CoefficientRoom}
use Rattle.numbers.specs.Numerator.{not_cells, too_many}
use Rattle.numbers.specs.declared.asked.Sizes.{Sizes}

abbrev pub rooms_checks : ℕ → ℕ → List ℕ → ℕ → List ℕ → Bool → ℕ → ℕ → ℕ → ℕ → List Check
rooms_checks n s xs t ys large least room first second =
    too_wide 255 n
    ∷ too_many 60 (s + t)
    ∷ not_cells n s xs
    ∷ not_cells n t ys
    ∷ (large, Coefficient)
    ∷ (nat_lt room (cells_asked n (listed n s xs ++ listed n t ys)), CellRoom)
    ∷ (nat_lt first (max (coefficients_asked (listed n s xs ++ listed n t ys)) least) || nat_lt second (max (coefficients_asked (listed n s xs ++ listed n t ys)) least), CoefficientRoom)
    ∷ []

unfoldable pub rooms_answer : ℕ → ℕ → List ℕ → ℕ → List ℕ → Bool → ℕ → ℕ → ℕ → ℕ → Result Sizes Refusal
rooms_answer n s xs t ys large least room first second =
    answer
    (refusal (rooms_checks n s xs t ys large least room first second))
    (record { cells = cells_asked n (listed n s xs ++ listed n t ys); coefficients = max (coefficients_asked (listed n s xs ++ listed n t ys)) least })
