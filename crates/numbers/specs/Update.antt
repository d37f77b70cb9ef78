-- The update of given coefficients: the checks in their order, the answer, and what each room then holds. W is the greatest width, C the
-- greatest count, M the greatest magnitude of a given coefficient; G the given coefficients.
--   beyond M G        == some coefficient of G is outside −M..M
--   too_large M G      == check 15
--   update_checks      == the order of checks: 1, 2, 3 existing, 3 new, 15, 7, 8
--   update_answer      == the answer: the trimmed length
--   update_room, update_first, update_second == the exponent room and the two coefficient rooms after the call
-- Assumes nothing.
use Rattle.std.specs.Prelude.{◌≡◌, ℕ, ◌+◌, Bool, true, false, ◌||◌, List, [], ◌∷◌, ◌++◌, length, ℤ, pos, negsuc, nat_lt, unsigned_abs, refl, Result}
use Rattle.laws.specs.Ideal.{listed}
use Rattle.laws.specs.Numerator.{update}
use Rattle.laws.specs.Room.{cells_asked, update_asked}
use Rattle.monomials.specs.Refusal.{Check, refusal, after, too_wide, answer}
use Rattle.monomials.specs.declared.refusal.Refusal.{Refusal}
use Rattle.monomials.specs.declared.refusal.Refusal.TheVariants.{Coefficient}
use Rattle.numbers.specs.Numerator.{wiped, padded, too_many, not_cells, cell_room, coefficient_rooms}

abbrev pub beyond : ℕ → List ℤ → Bool
beyond M [] = false
beyond M (z ∷ G) = nat_lt M (unsigned_abs z) || beyond M G

abbrev pub too_large : ℕ → List ℤ → Check
too_large M G = (beyond M G, Coefficient)

abbrev pub update_checks : ℕ → ℕ → ℕ → ℕ → List ℤ → ℕ → List ℕ → ℕ → List ℕ → List ℕ → List ℤ → List ℤ → List Check
update_checks W C M n G s0 existing s1 added room p q =
    too_wide W n
    ∷ too_many C (s0 + s1)
    ∷ not_cells n s0 existing
    ∷ not_cells n s1 added
    ∷ too_large M G
    ∷ cell_room (cells_asked n (listed n s0 existing ++ listed n s1 added)) room
    ∷ coefficient_rooms (update_asked G (listed n s0 existing ++ listed n s1 added)) p q
    ∷ []

abbrev pub update_answer : ℕ → ℕ → ℕ → ℕ → List ℤ → ℕ → List ℕ → ℕ → List ℕ → List ℕ → List ℤ → List ℤ → Result ℕ Refusal
update_answer W C M n G s0 existing s1 added room p q =
    answer (refusal (update_checks W C M n G s0 existing s1 added room p q)) (length (update G (listed n s0 existing) (listed n s1 added)))

abbrev pub update_room : ℕ → ℕ → ℕ → ℕ → List ℤ → ℕ → List ℕ → ℕ → List ℕ → List ℕ → List ℤ → List ℤ → List ℕ
update_room W C M n G s0 existing s1 added room p q =
    after (refusal (update_checks W C M n G s0 existing s1 added room p q)) (wiped 0 (cells_asked n (listed n s0 existing ++ listed n s1 added)) room) room

abbrev pub update_first : ℕ → ℕ → ℕ → ℕ → List ℤ → ℕ → List ℕ → ℕ → List ℕ → List ℕ → List ℤ → List ℤ → List ℤ
update_first W C M n G s0 existing s1 added room p q =
    after (refusal (update_checks W C M n G s0 existing s1 added room p q))
    (padded (pos 0) (update_asked G (listed n s0 existing ++ listed n s1 added)) (update G (listed n s0 existing) (listed n s1 added)) p) p

abbrev pub update_second : ℕ → ℕ → ℕ → ℕ → List ℤ → ℕ → List ℕ → ℕ → List ℕ → List ℕ → List ℤ → List ℤ → List ℤ
update_second W C M n G s0 existing s1 added room p q =
    after (refusal (update_checks W C M n G s0 existing s1 added room p q)) (wiped (pos 0) (update_asked G (listed n s0 existing ++ listed n s1 added)) q) q

test_beyond : beyond 2 (pos 2 ∷ negsuc 1 ∷ []) ≡ false
test_beyond = refl

test_beyond_below : beyond 2 (pos 2 ∷ negsuc 2 ∷ []) ≡ true
test_beyond_below = refl
