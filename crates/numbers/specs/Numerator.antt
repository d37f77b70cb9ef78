-- The numerator of a list: the checks in their order, the answer, and what each room then holds. W is the greatest width, C the greatest count.
--   wiped z k old           == a room that held old, with the value z in its first k cells
--   padded z k p old        == the same with p in front: p, then z up to the asked size k, then what stood there
--   too_many C s             == check 2: more than C monomials
--   not_cells n s cells      == check 3: the cells are not s · n
--   list_checks W C n s cells == the checks of a list: 1, 2, 3
--   cell_room k room         == check 7: fewer than k exponent cells
--   coefficient_rooms k p q  == check 8: either coefficient room is shorter than k
--   numerator_checks         == the order of checks: 1, 2, 3, 7, 8
--   numerator_answer         == the answer: the trimmed length
--   numerator_room, numerator_first, numerator_second == the exponent room and the two coefficient rooms after the call
-- Assumes nothing.
use Rattle.std.specs.Prelude.{ℕ, ◌-◌, ◌*◌, not, ◌||◌, List, [], ◌∷◌, ◌++◌, length, drop, replicate, ℤ, pos, ◌==◌, nat_lt, Result}
use Rattle.laws.specs.Ideal.{listed}
use Rattle.laws.specs.Numerator.{numerator}
use Rattle.laws.specs.Room.{cells_asked, coefficients_asked}
use Rattle.monomials.specs.Refusal.{Check, refusal, after, too_wide, answer}
use Rattle.monomials.specs.declared.refusal.Refusal.{Refusal}
use Rattle.monomials.specs.declared.refusal.Refusal.TheVariants.{Count, Cells, CellRoom, CoefficientRoom}

abbrev pub wiped : {A : Type 0} → A → ℕ → List A → List A
wiped z k old = replicate k z ++ drop k old

abbrev pub padded : {A : Type 0} → A → ℕ → List A → List A → List A
padded z k p old = p ++ replicate (k - length p) z ++ drop k old

abbrev pub too_many : ℕ → ℕ → Check
too_many C s = (nat_lt C s, Count)

abbrev pub not_cells : ℕ → ℕ → List ℕ → Check
not_cells n s cells = (not (length cells == s * n), Cells)

abbrev pub list_checks : ℕ → ℕ → ℕ → ℕ → List ℕ → List Check
list_checks W C n s cells = too_wide W n ∷ too_many C s ∷ not_cells n s cells ∷ []

abbrev pub cell_room : ℕ → List ℕ → Check
cell_room k room = (nat_lt (length room) k, CellRoom)

abbrev pub coefficient_rooms : ℕ → List ℤ → List ℤ → Check
coefficient_rooms k p q = (nat_lt (length p) k || nat_lt (length q) k, CoefficientRoom)

abbrev pub numerator_checks : ℕ → ℕ → ℕ → ℕ → List ℕ → List ℕ → List ℤ → List ℤ → List Check
numerator_checks W C n s cells room p q =
    list_checks W C n s cells
    ++ cell_room (cells_asked n (listed n s cells)) room
    ∷ coefficient_rooms (coefficients_asked (listed n s cells)) p q
    ∷ []

abbrev pub numerator_answer : ℕ → ℕ → ℕ → ℕ → List ℕ → List ℕ → List ℤ → List ℤ → Result ℕ Refusal
numerator_answer W C n s cells room p q = answer (refusal (numerator_checks W C n s cells room p q)) (length (numerator (listed n s cells)))

abbrev pub numerator_room : ℕ → ℕ → ℕ → ℕ → List ℕ → List ℕ → List ℤ → List ℤ → List ℕ
numerator_room W C n s cells room p q = after (refusal (numerator_checks W C n s cells room p q)) (wiped 0 (cells_asked n (listed n s cells)) room) room

abbrev pub numerator_first : ℕ → ℕ → ℕ → ℕ → List ℕ → List ℕ → List ℤ → List ℤ → List ℤ
numerator_first W C n s cells room p q =
    after (refusal (numerator_checks W C n s cells room p q)) (padded (pos 0) (coefficients_asked (listed n s cells)) (numerator (listed n s cells)) p) p

abbrev pub numerator_second : ℕ → ℕ → ℕ → ℕ → List ℕ → List ℕ → List ℤ → List ℤ → List ℤ
numerator_second W C n s cells room p q =
    after (refusal (numerator_checks W C n s cells room p q)) (wiped (pos 0) (coefficients_asked (listed n s cells)) q) q
